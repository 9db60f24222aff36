use Rattle.std.proofs.Common.{◌∙◌, ◌<◌, ℕ, List, arith, length, take, sym, ap, subst}
use Rattle.std.specs.Io.KnownBytes.{Consumes}
use Rattle.std.proofs.lemmas.Result.{err_from_is_err_and}
use Rattle.iso_issuer.specs.Books.{Books}
use Rattle.iso_host.specs.Serving.{standing}
use Rattle.iso_host.specs.Links.{agreed}
use Rattle.iso_host.specs.Entering.{StaysWithout}
use Rattle.iso_host.specs.Peers.{Unfinished}
use Rattle.std.specs.Prelude.{Err}
use Rattle.iso_service.specs.Serving.{Leaves, Stay, StayBehind}
use Rattle.iso_service.proofs.Kept.{synced_all, unless_log}
use Rattle.iso_service.proofs.Blocks.{Going, at_end, at_first, ends_stopped, goes_on, kept_all, kept_first, kept_hands, kept_now, no_block, unread_now}
use Rattle.iso_service.proofs.serving.serve_kept.Goals as goal

pub returns-in_err-block-clause-kept : goal.returns-in_err-block-clause-kept
returns-in_err-block-clause-kept g c = λ step kept.
    kept_first c.args.link.now.table c.args.link.now.header (g.R.Inlet.remaining c.args.reader.now) (g.W.Outlet.contents c.args.writer.now) c.args.host.now.host
    (g.L.Log.may_leave c.args.host.now.log) c.output_goes_on.ensures.none (subst (λ (b : Books). StaysWithout b) c.issuer.ensures c.one_journal.ensures.none) (c.kept_outlive.ensures step kept)

pub returns-in_err-block-clause-leaves : goal.returns-in_err-block-clause-leaves
returns-in_err-block-clause-leaves g c =
    let exit = err_from_is_err_and c.from_residual.result c.from_residual.ensures.1 in
    rw (exit.1, exit.2, c.in_err-block.ensures.fault) (no_block c.args.link.now.table c.args.link.now.header (g.R.Inlet.remaining c.args.reader.now) (g.W.Outlet.contents c.args.writer.now) c.args.host.now.host
    c.output_goes_on.ensures.none (subst (λ (b : Books). StaysWithout b) c.issuer.ensures c.one_journal.ensures.none))

pub loop-init : goal.loop-init
loop-init g c = record {
  table = ap (λ (p : Unfinished). p.table) c.new-connection.ensures.link;
  header = ap (λ (p : Unfinished). p.header) c.new-connection.ensures.link;
  room = c.in_ok-block.ensures.size;
  going = at_first c.args.link.now.table c.args.link.now.header (g.R.Inlet.remaining c.args.reader.now) (g.W.Outlet.contents c.args.writer.now) c.args.host.now.host
      c.new-connection.result c.output_goes_on.ensures.none (subst (λ (b : Books). StaysWithout b) c.issuer.ensures c.one_journal.ensures.none)
      (ap (λ (p : Unfinished). p.held) c.new-connection.ensures.link) c.new-connection.ensures.none;
  kept = λ k. k;
  step = λ s. s;
  stay = c.kept_outlive.ensures;
}

pub returns-in_err-count-clause-kept : goal.returns-in_err-count-clause-kept
returns-in_err-count-clause-kept g c = λ step kept.
    kept_now c.args.link.now.table c.args.link.now.header (g.R.Inlet.remaining c.args.reader.now) (g.W.Outlet.contents c.args.writer.now) c.args.host.now.host
    (g.R.Inlet.remaining c.loop.reader) (g.W.Outlet.contents c.loop.writer) c.loop.host.host c.loop.connection c.loop.invariant.going
    (g.L.Log.may_leave c.loop.host.log) (c.loop.invariant.stay step kept)

pub returns-in_err-count-clause-leaves : goal.returns-in_err-count-clause-leaves
returns-in_err-count-clause-leaves g c =
    let exit = err_from_is_err_and c.from_residual-in_err-count.result c.from_residual-in_err-count.ensures.1 in
    rw (exit.1, exit.2, c.in_err-count.ensures.fault) (unread_now c.args.link.now.table c.args.link.now.header (g.R.Inlet.remaining c.args.reader.now) (g.W.Outlet.contents c.args.writer.now) c.args.host.now.host
    (g.R.Inlet.remaining c.loop.reader) (g.W.Outlet.contents c.loop.writer) c.loop.host.host c.loop.connection c.loop.invariant.going
    (g.R.Inlet.remaining c.fill.new.reader) c.in_err-count.ensures.failed)

pub returns-then-count-eq0-clause-kept : goal.returns-then-count-eq0-clause-kept
returns-then-count-eq0-clause-kept g c = λ step kept.
    kept_now c.args.link.now.table c.args.link.now.header (g.R.Inlet.remaining c.args.reader.now) (g.W.Outlet.contents c.args.writer.now) c.args.host.now.host
    (g.R.Inlet.remaining c.loop.reader) (g.W.Outlet.contents c.loop.writer) c.loop.host.host c.loop.connection c.loop.invariant.going
    (g.L.Log.may_leave c.loop.host.log) (c.loop.invariant.stay step kept)

pub returns-then-count-eq0-clause-leaves : goal.returns-then-count-eq0-clause-leaves
returns-then-count-eq0-clause-leaves g c =
    let left = g.R.Inlet.remaining c.loop.reader in
    let next = g.R.Inlet.remaining c.fill.new.reader in
    let some : 0 < length c.loop.block.items = omega (arith, c.loop.invariant.room) in
    at_end c.args.link.now.table c.args.link.now.header (g.R.Inlet.remaining c.args.reader.now) (g.W.Outlet.contents c.args.writer.now) c.args.host.now.host
    left (g.W.Outlet.contents c.loop.writer) c.loop.host.host c.loop.connection c.loop.invariant.going next
    (subst (λ (n : ℕ). Consumes left next (take n c.fill.new.block.items)) c.if-count-eq0.true c.in_ok-count.ensures.read)
    (c.in_ok-count.ensures.end c.if-count-eq0.true some) c.told_at_end.result c.told_at_end.ensures

pub returns-in_err-turned-clause-kept : goal.returns-in_err-turned-clause-kept
returns-in_err-turned-clause-kept g c = λ step kept.
    kept_now c.args.link.now.table c.args.link.now.header (g.R.Inlet.remaining c.args.reader.now) (g.W.Outlet.contents c.args.writer.now) c.args.host.now.host
    (g.R.Inlet.remaining c.loop.reader) (g.W.Outlet.contents c.loop.writer) c.loop.host.host c.loop.connection c.loop.invariant.going
    (g.L.Log.may_leave c.take_counted.new.host.log)
    (subst (λ l. Stay (g.L.Log.may_leave l) c.loop.host.host) (sym c.take_counted.ensures.log) (c.loop.invariant.stay step kept))

pub returns-in_err-turned-clause-leaves : goal.returns-in_err-turned-clause-leaves
returns-in_err-turned-clause-leaves g c =
    let exit = err_from_is_err_and c.from_residual-in_err-turned.result c.from_residual-in_err-turned.ensures.1 in
    rw (exit.1, exit.2, c.in_err-turned.ensures.fault) tt

pub returns-clause-kept : goal.returns-clause-kept
returns-clause-kept g c = λ step kept.
    kept_now c.args.link.now.table c.args.link.now.header (g.R.Inlet.remaining c.args.reader.now) (g.W.Outlet.contents c.args.writer.now) c.args.host.now.host
    (g.R.Inlet.remaining c.loop.reader) (g.W.Outlet.contents c.loop.writer) c.loop.host.host c.loop.connection c.loop.invariant.going
    (g.L.Log.may_leave c.loop.host.log) (c.loop.invariant.stay step kept)

pub returns-in_err-keep_and_answer-clause-kept : goal.returns-in_err-keep_and_answer-clause-kept
returns-in_err-keep_and_answer-clause-kept g c = λ step kept.
    let log = synced_all g.L.Log.is_ready g.L.Log.synced g.L.Log.pending c.loop.host (c.loop.invariant.step step) (c.loop.invariant.kept kept) in
    let same = ap g.L.Log.synced c.take_counted.ensures.log ∙ log in
    let in_step = c.take_counted.ensures.step (c.loop.invariant.step step) in
    let may_leave = g.L.Log.may_leave c.keep_and_answer.new.host.log in
    kept_hands c.args.link.now.table c.args.link.now.header (g.R.Inlet.remaining c.args.reader.now) (g.W.Outlet.contents c.args.writer.now) c.args.host.now.host
    (g.R.Inlet.remaining c.loop.reader) (g.W.Outlet.contents c.loop.writer) c.loop.host.host c.loop.connection c.loop.invariant.going
    (g.R.Inlet.remaining c.fill.new.reader) (take c.in_ok-count.count c.deref.result.now) c.take_counted.new.connection c.take_counted.new.host.host
    c.in_ok-turned.turned c.frames.ensures c.one_journal.ensures.alone c.one_journal.ensures.more c.loop.invariant.table c.loop.invariant.header
    (c.take_counted.ensures.table ∙ c.loop.invariant.table) (c.take_counted.ensures.header ∙ c.loop.invariant.header)
    (subst (λ (l : List ℕ). Consumes (g.R.Inlet.remaining c.loop.reader) (g.R.Inlet.remaining c.fill.new.reader) (take c.in_ok-count.count l)) (sym c.deref.ensures.value)
    c.in_ok-count.ensures.read) c.in_ok-turned.ensures.took c.in_err-keep_and_answer.field-0.0 (g.W.Outlet.contents c.keep_and_answer.new.writer) may_leave c.in_err-keep_and_answer.ensures.written
    (subst (StayBehind may_leave) same (c.in_err-keep_and_answer.ensures.behind in_step))
    (unless_log c.in_err-keep_and_answer.field-0.0 _ (Stay may_leave c.take_counted.new.host.host) (λ stays. stays in_step) c.in_err-keep_and_answer.ensures.stay)

pub returns-in_err-goes_on-clause-kept : goal.returns-in_err-goes_on-clause-kept
returns-in_err-goes_on-clause-kept g c = λ step kept.
    let in_step = c.take_counted.ensures.step (c.loop.invariant.step step) in
    kept_all c.args.link.now.table c.args.link.now.header (g.R.Inlet.remaining c.args.reader.now) (g.W.Outlet.contents c.args.writer.now) c.args.host.now.host
    (g.R.Inlet.remaining c.loop.reader) (g.W.Outlet.contents c.loop.writer) c.loop.host.host c.loop.connection c.loop.invariant.going
    (g.R.Inlet.remaining c.fill.new.reader) (take c.in_ok-count.count c.deref.result.now) c.take_counted.new.connection c.take_counted.new.host.host
    c.in_ok-turned.turned c.frames.ensures c.one_journal.ensures.alone c.one_journal.ensures.more c.loop.invariant.table c.loop.invariant.header
    (c.take_counted.ensures.table ∙ c.loop.invariant.table) (c.take_counted.ensures.header ∙ c.loop.invariant.header)
    (subst (λ (l : List ℕ). Consumes (g.R.Inlet.remaining c.loop.reader) (g.R.Inlet.remaining c.fill.new.reader) (take c.in_ok-count.count l)) (sym c.deref.ensures.value)
    c.in_ok-count.ensures.read) c.in_ok-turned.ensures.took (g.W.Outlet.contents c.keep_and_answer.new.writer) (g.L.Log.may_leave c.keep_and_answer.new.host.log)
    c.in_ok-keep_and_answer.ensures.written (c.in_ok-keep_and_answer.ensures.stay in_step)

pub returns-in_err-goes_on-clause-leaves : goal.returns-in_err-goes_on-clause-leaves
returns-in_err-goes_on-clause-leaves g c =
    let exit = err_from_is_err_and c.from_residual-in_err-goes_on.result c.from_residual-in_err-goes_on.ensures.1 in
    rw (exit.1, exit.2) (subst (λ (b : Books). Leaves (agreed c.args.link.now.table c.args.link.now.header) (standing (g.R.Inlet.remaining c.args.reader.now) (g.W.Outlet.contents c.args.writer.now) c.args.host.now.host) (standing (g.R.Inlet.remaining c.fill.new.reader) (g.W.Outlet.contents c.keep_and_answer.new.writer) b) (Err c.in_err-goes_on.field-0.0)) (sym c.keep_and_answer.ensures.host)
    (ends_stopped c.args.link.now.table c.args.link.now.header (g.R.Inlet.remaining c.args.reader.now) (g.W.Outlet.contents c.args.writer.now) c.args.host.now.host
    (g.R.Inlet.remaining c.loop.reader) (g.W.Outlet.contents c.loop.writer) c.loop.host.host c.loop.connection c.loop.invariant.going
    (g.R.Inlet.remaining c.fill.new.reader) (take c.in_ok-count.count c.deref.result.now) c.take_counted.new.connection c.take_counted.new.host.host
    c.in_ok-turned.turned c.frames.ensures c.one_journal.ensures.alone c.one_journal.ensures.more c.loop.invariant.table c.loop.invariant.header
    (c.take_counted.ensures.table ∙ c.loop.invariant.table) (c.take_counted.ensures.header ∙ c.loop.invariant.header)
    (subst (λ (l : List ℕ). Consumes (g.R.Inlet.remaining c.loop.reader) (g.R.Inlet.remaining c.fill.new.reader) (take c.in_ok-count.count l)) (sym c.deref.ensures.value)
    c.in_ok-count.ensures.read) c.in_ok-turned.ensures.took (g.W.Outlet.contents c.keep_and_answer.new.writer) c.in_err-goes_on.ensures.stopped.0 c.in_err-goes_on.field-0.0 c.splits_once.ensures.bad
    c.in_ok-keep_and_answer.ensures.written c.in_err-goes_on.ensures.stopped.1 c.in_err-goes_on.ensures.stopped.2))

pub loop-preserved : goal.loop-preserved
loop-preserved g c = record {
  table = ap (λ (p : Unfinished). p.table) c.keep_and_answer.ensures.peer ∙ c.take_counted.ensures.table ∙ c.loop.invariant.table;
  header = ap (λ (p : Unfinished). p.header) c.keep_and_answer.ensures.peer ∙ c.take_counted.ensures.header ∙ c.loop.invariant.header;
  room = c.fill.ensures.room ∙ c.loop.invariant.room;
  going = subst (λ (b : Books). Going c.args.link.now.table c.args.link.now.header (g.R.Inlet.remaining c.args.reader.now) (g.W.Outlet.contents c.args.writer.now)
      c.args.host.now.host (g.R.Inlet.remaining c.fill.new.reader) (g.W.Outlet.contents c.keep_and_answer.new.writer) b c.keep_and_answer.new.connection)
      (sym c.keep_and_answer.ensures.host)
      (goes_on c.args.link.now.table c.args.link.now.header (g.R.Inlet.remaining c.args.reader.now) (g.W.Outlet.contents c.args.writer.now) c.args.host.now.host
      (g.R.Inlet.remaining c.loop.reader) (g.W.Outlet.contents c.loop.writer) c.loop.host.host c.loop.connection c.loop.invariant.going
      (g.R.Inlet.remaining c.fill.new.reader) (take c.in_ok-count.count c.deref.result.now) c.take_counted.new.connection c.take_counted.new.host.host
      c.in_ok-turned.turned c.frames.ensures c.one_journal.ensures.alone c.one_journal.ensures.more c.loop.invariant.table c.loop.invariant.header
      (c.take_counted.ensures.table ∙ c.loop.invariant.table) (c.take_counted.ensures.header ∙ c.loop.invariant.header)
      (subst (λ (l : List ℕ). Consumes (g.R.Inlet.remaining c.loop.reader) (g.R.Inlet.remaining c.fill.new.reader) (take c.in_ok-count.count l)) (sym c.deref.ensures.value)
      c.in_ok-count.ensures.read) c.in_ok-turned.ensures.took (g.W.Outlet.contents c.keep_and_answer.new.writer) c.keep_and_answer.new.connection c.in_ok-keep_and_answer.ensures.written c.in_ok-goes_on.ensures.more
      c.keep_and_answer.ensures.peer c.in_ok-keep_and_answer.ensures.waiting);
  kept = λ k. c.in_ok-keep_and_answer.ensures.kept;
  step = λ s. c.in_ok-keep_and_answer.ensures.step (c.take_counted.ensures.step (c.loop.invariant.step s));
  stay = λ s k. subst (Stay (g.L.Log.may_leave c.keep_and_answer.new.host.log)) (sym c.keep_and_answer.ensures.host)
      (c.in_ok-keep_and_answer.ensures.stay (c.take_counted.ensures.step (c.loop.invariant.step s)));
}
