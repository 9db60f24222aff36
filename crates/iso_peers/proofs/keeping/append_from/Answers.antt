use Rattle.std.proofs.Common.{◌∙◌, ◌++◌, ◌+◌, [], ◌∷◌, ap, drop, List}
use Rattle.iso_order.specs.Order.{Instruction}
use Rattle.iso_peers.proofs.Leaving.{leaves_part, added}
use Rattle.iso_peers.proofs.keeping.append_from.Goals as goal

pub returns-in_default-clause-crash : goal.returns-in_default-clause-crash
returns-in_default-clause-crash g c = λ is.
    let i = c.loop-place.invariant in
    let orders = c.orders-orders.result.now in
    let waiting = g.L.Log.pending c.args.log.now in
    leaves_part (g.L.Log.may_leave c.loop-place.log) (g.L.Log.synced c.args.log.now) (g.L.Log.synced c.loop-place.log) (g.L.Log.pending c.loop-place.log)
    (drop c.loop-place.place orders) (waiting ++ drop c.args.kept c.args.issuer.now.orders) (i.synced is)
    (i.pending is ∙ ap (λ (l : List Instruction). waiting ++ drop c.args.kept l) c.orders-orders.ensures) (g.met.L.Log.leaves_front c.loop-place.log (i.ready is))

pub returns-in_err-append-clause-crash : goal.returns-in_err-append-clause-crash
returns-in_err-append-clause-crash g c = λ is.
    let i = c.loop-place.invariant in
    let orders = c.orders-orders.result.now in
    let waiting = g.L.Log.pending c.args.log.now in
    let o = c.index-orders-place.result in
    leaves_part (g.L.Log.may_leave c.append.new.self) (g.L.Log.synced c.args.log.now) (g.L.Log.synced c.loop-place.log) (g.L.Log.pending c.loop-place.log ++ o ∷ [])
    (drop (c.loop-place.place + 1) orders) (waiting ++ drop c.args.kept c.args.issuer.now.orders) (i.synced is)
    (added (g.L.Log.pending c.loop-place.log) orders c.loop-place.place o (waiting ++ drop c.args.kept orders) c.loop-place-test.true c.index-orders-place.is (i.pending is)
    ∙ ap (λ (l : List Instruction). waiting ++ drop c.args.kept l) c.orders-orders.ensures)
    (c.append.ensures.crash (i.ready is))
