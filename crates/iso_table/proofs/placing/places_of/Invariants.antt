use Rattle.std.proofs.Common.{◌≡◌, ℕ, [], length, take, drop}
use Rattle.iso_table.specs.Layout.{row_at}
use Rattle.iso_table.specs.Accepted.{rows_fault, row_of}
use Rattle.iso_table.proofs.placing.places_of.Given as goal

-- the rows so far stand at their places, and what is wrong is wrong with the rest
-- 129 is PLACES, one more than the highest number of an element
abbrev pub invariant-loop-row : goal.invariant-loop-row
invariant-loop-row l = record {
  size : length l.places ≡ 129;
  rows : (n : ℕ) → row_at l.places n ≡ row_of (take l.row-index l.rows) n;
  judged : rows_fault (take l.row-index l.rows) (drop l.row-index l.rows) ≡ rows_fault [] l.rows;
}
