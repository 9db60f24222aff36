use Rattle.std.proofs.Common.{◌∙◌, ◌-◌, ap, sym}
use Rattle.iso_record.specs.Row.{row_in}
use Rattle.iso_shared.specs.Batch.{rows_from}
use Rattle.iso_shared.proofs.Batches.{read_step, read_stop}
use Rattle.iso_shared.proofs.reading.read_rows.Goals as goal

pub returns-in-None-clause-none : goal.returns-in-None-clause-none
returns-in-None-clause-none c = λ _.
    read_stop c.args.text.now c.args.count c.loop-place.place c.loop-place.rows.items (rows_from (c.args.count - 1) 1 c.args.text.now) c.loop-place-test.true
    (sym (ap row_in c.record_at-record.ensures) ∙ sym c.in-None.ensures.value) c.loop-place.invariant

pub loop-place-preserved : goal.loop-place-preserved
loop-place-preserved c =
    rw c.in_ok-push-in-Some.ensures.items
    (read_step c.args.text.now c.args.count c.loop-place.place c.loop-place.rows.items c.in-Some.row (rows_from (c.args.count - 1) 1 c.args.text.now) c.loop-place-test.true
    (sym (ap row_in c.record_at-record.ensures) ∙ sym c.in-Some.ensures.value) c.loop-place.invariant)
