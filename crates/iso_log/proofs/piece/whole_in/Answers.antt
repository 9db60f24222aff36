use Rattle.std.proofs.Common.{◌∙◌, arith}
use Rattle.iso_log.proofs.Pieces.{slot_whole, whole_next}
use Rattle.iso_log.proofs.piece.whole_in.Goals as goal

pub returns-then-not-is_whole : goal.returns-then-not-is_whole
returns-then-not-is_whole c =
    let place = c.loop-place.place in
    record {
      within = omega (arith, c.loop-place-test.true);
      whole = λ j least lt. c.loop-place.invariant j lt;
      not_whole = λ lt. slot_whole c.args.bytes.now place _ c.is_whole.result (omega arith) (omega (arith, c.loop-place-test.true)) c.is_whole.ensures ∙ c.if-not-is_whole.true;
    }

pub loop-place-preserved : goal.loop-place-preserved
loop-place-preserved c =
    let place = c.loop-place.place in
    whole_next c.args.bytes.now place c.loop-place.invariant
    (slot_whole c.args.bytes.now place _ c.is_whole.result (omega arith) (omega (arith, c.loop-place-test.true)) c.is_whole.ensures ∙ c.if-not-is_whole.false)
