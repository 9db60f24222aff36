use Rattle.std.proofs.Common.{None}
use Rattle.iso_table.proofs.WritingLemmas.{values_more, values_same}
use Rattle.iso_table.proofs.writing.row_values.Goals.{in-Some+in_ok-row_value+in_ok-push, in_default}
use Rattle.iso_table.proofs.writing.row_values.Goals as goal

pub loop-number-preserved : goal.loop-number-preserved
loop-number-preserved c =
    let places = c.args.places.now in
    let i = c.loop-number.number in
    elim c.match-place.branch [
      | in-Some+in_ok-row_value+in_ok-push w ↦ rw (w.values-is, w.in_ok-push.ensures.items) (values_more places i None w.in-Some.spec c.loop-number.values.items w.in_ok-row_value.field-0 c.loop-number-test.true w.in-Some.is c.loop-number.invariant w.in_ok-row_value.ensures)
      | in_default w ↦ rw w.values-is (values_same places i None c.loop-number.values.items c.loop-number-test.true w.in_default.is c.loop-number.invariant)
    ]
