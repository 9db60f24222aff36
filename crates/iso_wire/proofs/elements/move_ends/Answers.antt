use Rattle.std.proofs.Common.{get_or, arith}
use Rattle.std.proofs.lemmas.List.{get_or_default}
use Rattle.std.proofs.lemmas.List.Edits.{map_over_more}
use Rattle.iso_wire.specs.Ends.{shifted_end}
use Rattle.iso_wire.proofs.elements.move_ends.Goals as goal

pub loop-end-preserved : goal.loop-end-preserved
loop-end-preserved c =
    let old = c.args.ends.now in
    let now = c.loop-end.ends in
    let i = c.loop-end.end-index in
    let x = get_or now i 0 in
    map_over_more (shifted_end c.args.removed c.args.added) old now i x c.loop-end-test.true c.loop-end.invariant (get_or_default now i 0 x (omega (arith, c.loop-end-test.true, c.loop-end.auto.ends)))
