use Rattle.std.proofs.Common.{◌≡◌, [], Err, ℕ, refl, sym, ◌∙◌, ap, arith, inl}
use Rattle.std.proofs.lemmas.Result.{err_from_is_err_and}
use Rattle.iso_host.specs.Answering.{SpendsOnWrite}
use Rattle.iso_host.specs.Counts.{Counts, Usage, stream, usage}
use Rattle.iso_host.specs.Hosting.{replying}
use Rattle.iso_host.specs.Links.{Agreed}
use Rattle.iso_host.specs.NextFrame.{taking}
use Rattle.iso_host.specs.Reading.{EndsReads, Reading, reading}
use Rattle.iso_host.specs.Serving.{Cause, Flushes, IsFlushed, Sending, WithinTurns}
use Rattle.iso_host.specs.Turns.{TakesTurns}
use Rattle.iso_host.specs.declared.fault.ServeFault.{ServeFault}
use Rattle.iso_host.specs.declared.fault.ServeFault.TheVariants.{Read, Write, BadHeader, CutFrame, Memory, TooManyTurns}
use Rattle.iso_host.specs.Gathering.{Gathered}
use Rattle.iso_host.proofs.PeerLemmas.{held_none, not_begun}
use Rattle.iso_host.proofs.Running.{Running}
use Rattle.iso_host.proofs.ServeLemmas.{going_none, going_more, running_write, running_read, stop_at, waits_at, stop_before, ends_whole, written_part, written_whole}
use Rattle.iso_host.proofs.StreamLemmas.{flushed_so}
use Rattle.iso_host.proofs.serving.serve.Goals as goal

-- a read that ends the call
read_cause : (before now : Usage) (turns : ℕ) (first last : Reading) (e : ServeFault) → Running before now turns first.turns → now.reader ≡ first.reader.counts
    → TakesTurns first.reader.counts last.reader.counts first.turns last.turns → EndsReads first last e → Cause before (usage last.reader.counts now.writer) turns (Err e)
read_cause before now turns first last Read so same turn ends = omega (arith, so.reader, ends, ap (λ (k : Counts). k.failures) same)
read_cause before now turns first last TooManyTurns so same turn ends =
    let calls = ap (λ (k : Counts). k.calls) same in
    let moved = ap (λ (k : Counts). k.moved) same in (
      record { reader = ends.0.failures ∙ sym (ap (λ (k : Counts). k.failures) same) ∙ so.reader; writer = so.writer },
      record { calls = omega (arith, so.calls, turn, ends.1, calls); moved = omega (arith, so.calls, so.moved, turn, ends.0.moved, ends.1, calls, moved) },
    )
read_cause before now turns first last CutFrame so same turn ends = record { reader = ends ∙ sym (ap (λ (k : Counts). k.failures) same) ∙ so.reader; writer = so.writer }
read_cause before now turns first last BadHeader so same turn ends = record { reader = ends ∙ sym (ap (λ (k : Counts). k.failures) same) ∙ so.reader; writer = so.writer }
read_cause before now turns first last Memory so same turn ends = record { reader = ends ∙ sym (ap (λ (k : Counts). k.failures) same) ∙ so.reader; writer = so.writer }
read_cause before now turns first last Write so same turn ends = absurd ends

-- a write that ends it
write_cause : (before now : Usage) (w : Counts) (turns left left' : ℕ) (e : ServeFault) → Running before now turns left → TakesTurns now.writer w left left'
    → SpendsOnWrite {T = Unit {0}} now.writer w left left' (Err e) → Cause before (usage now.reader w) turns (Err e)
write_cause before now w turns left left' Write so turn ends = omega (arith, so.writer, ends)
write_cause before now w turns left left' TooManyTurns so turn ends = (
  record { reader = so.reader; writer = ends.0.failures ∙ so.writer },
  record { calls = omega (arith, so.calls, turn, ends.1); moved = omega (arith, so.calls, so.moved, turn, ends.0.moved, ends.1) },
)
write_cause before now w turns left left' Memory so turn ends = record { reader = so.reader; writer = ap (λ (k : Counts). k.failures) ends ∙ so.writer }
write_cause before now w turns left left' Read so turn ends = absurd ends
write_cause before now w turns left left' BadHeader so turn ends = absurd ends
write_cause before now w turns left left' CutFrame so turn ends = absurd ends

-- what was flushed so far stays so
still_flushed : (l : Agreed) (before after : Sending) (first last : Reading) (e : ServeFault) → IsFlushed before.writer.counts after.writer.counts → EndsReads first last e → Flushes l before after (Err e)
still_flushed l before after first last Read so ends = so
still_flushed l before after first last BadHeader so ends = so
still_flushed l before after first last CutFrame so ends = so
still_flushed l before after first last Memory so ends = so
still_flushed l before after first last TooManyTurns so ends = inl so
still_flushed l before after first last Write so ends = absurd ends

within : (before now : Usage) (r w : Counts) (turns left mid left' : ℕ) → Running before now turns left → TakesTurns now.reader r left mid → TakesTurns now.writer w mid left' → WithinTurns before (usage r w) turns
within before now r w turns left mid left' so turn next = omega (arith, so.calls, turn, next)

pub frames-init : goal.frames-init
frames-init g c =
    let line = c.new_line-line.ensures in
    record {
      same = ap (λ (x : Gathered). x.table) line.gathering;
      begun = not_begun c.args.header _ c.new_line-line.result.gathering.part line.count line.left (ap (λ (x : Gathered). x.part) line.gathering);
      none = held_none c.new_line-line.result.begun c.new_line-line.result.gathering.part line.count (ap (λ (x : Gathered). x.part) line.gathering);
      going = going_none _ _ _ _ c.enters_nothing.ensures line.window (record { frames = refl; answered = refl; silent = refl; unreadable = refl });
      running = record { calls = omega arith; moved = omega arith; reader = refl; writer = refl };
    }

pub returns-in_err-next_frame-clause-leaves : goal.returns-in_err-next_frame-clause-leaves
returns-in_err-next_frame-clause-leaves g c =
    let exit = err_from_is_err_and c.from_residual.result c.from_residual.ensures.1 in
    let laws = c.splits_once.ensures in
    let before = taking (reading c.frames.line.window (stream (g.R.Inlet.remaining c.frames.reader) (g.R.Inlet.counts c.frames.reader)) c.frames.left) (replying c.frames.issuer []) in
    let after = taking (reading c.next_frame.new.line.window (stream (g.R.Inlet.remaining c.next_frame.new.reader) (g.R.Inlet.counts c.next_frame.new.reader)) c.next_frame.new.left) (replying c.next_frame.new.issuer []) in
    rw (exit.1, exit.2) (stop_before _ _ _ _ c.frames.invariant.going c.firsts_go_on.ensures c.frames-2.ensures laws.bad laws.stays before after c.in_err-next_frame.field-0.0 c.in_err-next_frame.ensures.bytes refl refl)

pub returns-then-not-branch-clause-leaves : goal.returns-then-not-branch-clause-leaves
returns-then-not-branch-clause-leaves g c =
    let end = rw c.if-not-branch.true at c.in_ok-next_frame.ensures.bytes in
    ends_whole _ _ _ _ c.frames.invariant.going _ _ _ end.0 end.1 end.2 end.3

pub returns-in_err-write_answer-clause-leaves : goal.returns-in_err-write_answer-clause-leaves
returns-in_err-write_answer-clause-leaves g c =
    let exit = err_from_is_err_and c.from_residual-in_err-write_answer.result c.from_residual-in_err-write_answer.ensures.1 in
    let so = c.frames.invariant in
    let frame = rw c.if-not-branch.false at c.in_ok-next_frame.ensures.bytes in
    let e = c.in_err-write_answer.ensures in
    let part = rw c.deref.ensures.value at e.written in
    rw (exit.1, exit.2) (stop_at _ _ _ _ so.going c.firsts_go_on.ensures c.frames-2.ensures (Unit {0}) _ _ _ _ _ _ frame.0 c.in_err-write_answer.field-0.0 frame.1 frame.2
    (written_part _ _ _ _ _ _ c.clear.ensures.items frame.3 part) e.spent)

pub returns-in_err-write_answer-clause-flushed : goal.returns-in_err-write_answer-clause-flushed
returns-in_err-write_answer-clause-flushed g c =
    let exit = err_from_is_err_and c.from_residual-in_err-write_answer.result c.from_residual-in_err-write_answer.ensures.1 in
    let so = c.frames.invariant in
    let frame = rw c.if-not-branch.false at c.in_ok-next_frame.ensures.bytes in
    let e = c.in_err-write_answer.ensures in
    let part = rw c.deref.ensures.value at e.written in
    rw (exit.1, exit.2) (waits_at _ _ _ _ so.going c.firsts_go_on.ensures c.frames-2.ensures (Unit {0}) _ _ _ _ _ _ frame.0 c.in_err-write_answer.field-0.0 frame.1 frame.2
    (written_part _ _ _ _ _ _ c.clear.ensures.items frame.3 part) e.spent)

pub frames-preserved : goal.frames-preserved
frames-preserved g c =
    let so = c.frames.invariant in
    let next = c.in_ok-next_frame.ensures in
    let frame = rw c.if-not-branch.false at next.bytes in
    let drawn = rw c.if-not-branch.false at next.spent in
    let e = c.in_ok-write_answer.ensures in
    let appends = rw c.deref.ensures.value at e.written in
    let flushed = rw c.deref.ensures.value at e.flushed in
    record {
      same = next.same;
      begun = next.begun;
      none = next.none;
      going = going_more c.firsts_go_on.ensures c.frames-2.ensures _ _ _ _ _ _ _ _ _ so.going frame.1 frame.2
          (written_whole _ _ _ _ _ _ c.clear.ensures.items frame.3 appends flushed) (c.count_frame.ensures c.args.table.now c.frames.issuer frame.0 frame.4);
      running = running_write _ _ _ _ _ _ (running_read _ _ _ _ _ _ so.running next.turns drawn.spends) e.turns e.spent;
    }

pub returns-in_err-next_frame-clause-cause : goal.returns-in_err-next_frame-clause-cause
returns-in_err-next_frame-clause-cause g c =
    let exit = err_from_is_err_and c.from_residual.result c.from_residual.ensures.1 in
    let first = reading c.frames.line.window (stream (g.R.Inlet.remaining c.frames.reader) (g.R.Inlet.counts c.frames.reader)) c.frames.left in
    let last = reading c.next_frame.new.line.window (stream (g.R.Inlet.remaining c.next_frame.new.reader) (g.R.Inlet.counts c.next_frame.new.reader)) c.next_frame.new.left in
    rw (exit.1, exit.2) (read_cause _ _ c.args.turns first last c.in_err-next_frame.field-0.0 c.frames.invariant.running refl c.in_err-next_frame.ensures.turns c.in_err-next_frame.ensures.spent)

pub returns-in_err-next_frame-clause-flushed : goal.returns-in_err-next_frame-clause-flushed
returns-in_err-next_frame-clause-flushed g c =
    let exit = err_from_is_err_and c.from_residual.result c.from_residual.ensures.1 in
    let first = reading c.frames.line.window (stream (g.R.Inlet.remaining c.frames.reader) (g.R.Inlet.counts c.frames.reader)) c.frames.left in
    let last = reading c.next_frame.new.line.window (stream (g.R.Inlet.remaining c.next_frame.new.reader) (g.R.Inlet.counts c.next_frame.new.reader)) c.next_frame.new.left in
    rw (exit.1, exit.2) (still_flushed _ _ _ first last c.in_err-next_frame.field-0.0 (flushed_so _ _ _ c.frames.invariant.going.flushed) c.in_err-next_frame.ensures.spent)

pub returns-in_err-next_frame-clause-turns : goal.returns-in_err-next_frame-clause-turns
returns-in_err-next_frame-clause-turns g c =
    within _ _ (g.R.Inlet.counts c.next_frame.new.reader) (g.W.Outlet.counts c.frames.writer) c.args.turns c.frames.left c.next_frame.new.left c.next_frame.new.left c.frames.invariant.running
    c.in_err-next_frame.ensures.turns refl

pub returns-then-not-branch-clause-cause : goal.returns-then-not-branch-clause-cause
returns-then-not-branch-clause-cause g c =
    let drawn = rw c.if-not-branch.true at c.in_ok-next_frame.ensures.spent in
    record { reader = drawn ∙ c.frames.invariant.running.reader; writer = c.frames.invariant.running.writer }

pub returns-then-not-branch-clause-flushed : goal.returns-then-not-branch-clause-flushed
returns-then-not-branch-clause-flushed g c = flushed_so _ _ _ c.frames.invariant.going.flushed

pub returns-then-not-branch-clause-turns : goal.returns-then-not-branch-clause-turns
returns-then-not-branch-clause-turns g c =
    within _ _ (g.R.Inlet.counts c.next_frame.new.reader) (g.W.Outlet.counts c.frames.writer) c.args.turns c.frames.left c.next_frame.new.left c.next_frame.new.left c.frames.invariant.running
    c.in_ok-next_frame.ensures.turns refl

pub returns-in_err-write_answer-clause-cause : goal.returns-in_err-write_answer-clause-cause
returns-in_err-write_answer-clause-cause g c =
    let exit = err_from_is_err_and c.from_residual-in_err-write_answer.result c.from_residual-in_err-write_answer.ensures.1 in
    let next = c.in_ok-next_frame.ensures in
    let drawn = rw c.if-not-branch.false at next.spent in
    rw (exit.1, exit.2) (write_cause _ _ (g.W.Outlet.counts c.write_answer.new.writer) c.args.turns c.next_frame.new.left c.write_answer.new.left c.in_err-write_answer.field-0.0
    (running_read _ _ _ _ _ _ c.frames.invariant.running next.turns drawn.spends) c.in_err-write_answer.ensures.turns c.in_err-write_answer.ensures.spent)

pub returns-in_err-write_answer-clause-turns : goal.returns-in_err-write_answer-clause-turns
returns-in_err-write_answer-clause-turns g c =
    within _ _ (g.R.Inlet.counts c.next_frame.new.reader) (g.W.Outlet.counts c.write_answer.new.writer) c.args.turns c.frames.left c.next_frame.new.left c.write_answer.new.left
    c.frames.invariant.running c.in_ok-next_frame.ensures.turns c.in_err-write_answer.ensures.turns
