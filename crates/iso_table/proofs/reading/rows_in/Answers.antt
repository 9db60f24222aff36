use Rattle.std.proofs.Common.{ap, sym, ◌∙◌}
use Rattle.serde_json.specs.View.{view}
use Rattle.serde_json.specs.declared.value.Value.{Value}
use Rattle.iso_table.specs.Document.{document_row}
use Rattle.iso_table.proofs.DocumentLemmas.{rows_more}
use Rattle.iso_table.proofs.reading.rows_in.Goals as goal

pub loop-value-preserved : goal.loop-value-preserved
loop-value-preserved c =
    let is = ap (λ (v : Value). document_row c.args.profile (view v)) (sym c.value-item.is) ∙ sym c.in-Some.ensures in
    rw c.in_ok-push.ensures.items (rows_more c.args.profile c.args.values.now c.loop-value.value-index c.value-item.result c.in-Some.row c.loop-value.rows.items _ c.loop-value-test.true is c.loop-value.invariant)
