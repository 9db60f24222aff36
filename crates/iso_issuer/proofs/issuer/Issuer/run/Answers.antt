use Rattle.std.proofs.Common.{◌≡◌, ◌∙◌, ◌+◌, arith, ap, refl, ◌++◌, ◌∷◌, [], take, length, ◌<◌}
use Rattle.std.specs.Prelude.{is_ok, true}
use Rattle.std.specs.Vec.{vec_len, vec_capacity}
use Rattle.std.proofs.lemmas.Result.{err_from_is_err_and}
use Rattle.std.proofs.lemmas.List.{take_more, take_all}
use Rattle.iso_issuer.specs.Journal.{firsts}
use Rattle.iso_issuer.proofs.Firsts.{firsts-distinct}
use Rattle.iso_issuer.proofs.Runs.{run-push, handled, run-after}
use Rattle.iso_issuer.proofs.issuer.Issuer.run.Goals as goal

pub loop-order-preserved : goal.loop-order-preserved
loop-order-preserved c =
    let e = c.handle-answer.ensures in
    let told = handled c.loop-order.self c.handle-answer.new.self c.order-item.result c.handle-answer.result e.full e.memory e.answer e.entered e.unchanged in
    let below : c.loop-order.order-index < length c.args.orders.now = c.loop-order-test.true in
    let first = take_more c.args.orders.now c.loop-order.order-index c.order-item.result below in
    let room : vec_len c.loop-order.answers < vec_capacity c.loop-order.answers = omega (arith, c.loop-order.invariant.count, c.loop-order.invariant.room, below) in
    let stored : is_ok c.push.result ≡ true = c.push.ensures.succeeds room in
    let len = rw stored at c.push.ensures.len in
    let items : c.push.new.self.items ≡ c.loop-order.answers.items ++ c.handle-answer.result ∷ [] = rw stored at c.push.ensures.items in
    record {
      run = rw (first, ← c.order-item.is, items, told.1)
          (run-push c.args.self.now c.loop-order.self (take c.loop-order.order-index c.args.orders.now) c.loop-order.answers.items c.order-item.result c.handle-answer.result
          c.loop-order.invariant.run told.0);
      count = len ∙ ap (λ n. n + 1) c.loop-order.invariant.count;
      room = omega (arith, c.loop-order.invariant.room, c.push.ensures.capacity);
    }

pub returns-clause-entered : goal.returns-clause-entered
returns-clause-entered c =
    let distinct : firsts c.args.self.now.orders ≡ c.args.self.now.orders = rw (← c.self.view_is) (firsts-distinct _ c.self.invariant.0.distinct) in
    let all = take_all c.loop-order.order-index c.args.orders.now c.loop-order-test.false in
    run-after c.args.self.now c.loop-order.self c.args.orders.now c.loop-order.answers.items distinct (rw all at c.loop-order.invariant.run)

pub returns-clause-run : goal.returns-clause-run
returns-clause-run c = rw (take_all c.loop-order.order-index c.args.orders.now c.loop-order-test.false) at c.loop-order.invariant.run

pub loop-order-init : goal.loop-order-init
loop-order-init c = record { run = rw c.in_ok-answers.ensures.items refl; count = c.in_ok-answers.ensures.len; room = c.in_ok-answers.ensures.capacity }

pub unwrap-requires : goal.unwrap-requires
unwrap-requires c =
    let room : vec_len c.loop-order.answers < vec_capacity c.loop-order.answers = omega (arith, c.loop-order.invariant.count, c.loop-order.invariant.room, c.loop-order-test.true) in
    c.push.ensures.succeeds room

pub returns-clause-unchanged : goal.returns-clause-unchanged
returns-clause-unchanged c = tt

pub returns-in_err-answers-clause-unchanged : goal.returns-in_err-answers-clause-unchanged
returns-in_err-answers-clause-unchanged c =
    let p = err_from_is_err_and c.from_residual.result c.from_residual.ensures.1 in
    rw p.1 refl
