use Rattle.std.proofs.Common.{subst, refl}
use Rattle.std.specs.List.{All}
use Rattle.std.proofs.lemmas.List.Elements.{All-same, All-nil}
use Rattle.serde_json.specs.Data.{Items}
use Rattle.serde_json.specs.View.{items_view}
use Rattle.iso_review.specs.Complaints.{IsAmong, complaint_at, nowhere}
use Rattle.iso_review.proofs.Places.{more_among, nowhere_among}
use Rattle.iso_review.proofs.document.document_complaints.Goals as goal

pub returns : goal.returns
returns c =
    let rows : Items = items_view c.rows_of.result.now in
    let none = All-same (IsAmong rows) c.new-told.result.items _ c.new-told.ensures.items (All-nil (IsAmong rows)) in
    let head = All-same (IsAmong rows) c.push_all.new.out.items _ c.in_ok-push_all.ensures
    (more_among rows nowhere c.new-told.result.items c.deref.result.now (λ f. nowhere_among rows (complaint_at nowhere f) refl) none) in
    subst (λ (rs : Items). All (IsAmong rs) c.push_rows.new.out.items) c.rows_of.ensures (c.in_ok-push_rows.ensures head)
