use Rattle.std.proofs.Common.{refl, ◌∙◌}
use Rattle.std.proofs.lemmas.List.{length-set}
use Rattle.iso_table.proofs.RowLemmas.{row_at-replicate, placed_more, judged_more}
use Rattle.iso_table.proofs.placing.places_of.Goals as goal

pub loop-row-init : goal.loop-row-init
loop-row-init c = record { size = refl; rows = λ n. row_at-replicate 129 n; judged = refl }

pub loop-row-preserved : goal.loop-row-preserved
loop-row-preserved c =
    let was = c.loop-row.invariant in
    let now = c.in_ok-put_at_number.ensures in
    record {
      size = rw now.ok (length-set _ _ _ ∙ was.size);
      rows = placed_more c.args.rows.now c.loop-row.row-index _ c.loop-row.places c.put_at_number.new.places c.loop-row-test.true was.size was.rows now.good now.ok;
      judged = judged_more c.args.rows.now c.loop-row.row-index _ c.loop-row.places _ c.loop-row-test.true was.rows now.good was.judged;
    }
