use Rattle.std.proofs.Common.{ap, ◌∙◌}
use Rattle.std.specs.Prelude.{codes}
use Rattle.std.proofs.lemmas.List.Elements.{All-same}
use Rattle.serde_json.specs.View.{view, items_view}
use Rattle.serde_json.specs.declared.value.Value.{Value}
use Rattle.iso_table.specs.Members.{whole_at}
use Rattle.iso_review.specs.Complaints.{IsAmong}
use Rattle.iso_review.proofs.Places.{more_among, among_row}
use Rattle.iso_review.proofs.document.push_rows.Goals as goal

pub loop-at-preserved : goal.loop-at-preserved
loop-at-preserved c = λ good.
    let rows = c.args.rows.now in
    let told = c.u16_at-element.ensures ∙ ap (λ (v : Value). whole_at (codes "number") 65535 (view v)) c.index-rows-at.is in
    All-same (IsAmong (items_view rows)) c.push_all.new.out.items _ c.in_ok-push_all.ensures
    (more_among (items_view rows) _ c.loop-at.out.items c.deref.result.now (λ f. among_row rows c.index-rows-at.result c.loop-at.at c.u16_at-element.result f c.loop-at-test.true told) (c.loop-at.invariant good))
