use Rattle.std.proofs.Common.{◌≡◌, ◌≢◌, ◌<◌, ℕ, get_or}
use Rattle.iso_review.proofs.change.put_row.Given as goal

-- the rows are as they were, and none so far has the number
abbrev pub invariant-loop-at : goal.invariant-loop-at
invariant-loop-at l = record {
  same : l.rows.items ≡ l.fn.rows.items;
  others : (k : ℕ) → k < l.at → (get_or l.rows.items k l.row).number ≢ l.row.number;
}
