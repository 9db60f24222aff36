use Rattle.std.specs.List.{All}
use Rattle.serde_json.specs.View.{items_view}
use Rattle.iso_review.specs.Complaints.{IsAmong}
use Rattle.iso_review.proofs.document.push_rows.Given as goal

-- what is told so far is told of the rows
abbrev pub invariant-loop-at : goal.invariant-loop-at
invariant-loop-at l = All (IsAmong (items_view l.rows)) l.fn.out.items → All (IsAmong (items_view l.rows)) l.out.items
