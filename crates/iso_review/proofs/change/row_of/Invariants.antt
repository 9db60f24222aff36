use Rattle.std.proofs.Common.{◌≡◌, drop}
use Rattle.iso_table.specs.Accepted.{row_of}
use Rattle.iso_review.proofs.change.row_of.Given as goal

-- the row is among the rest
abbrev pub invariant-loop-row : goal.invariant-loop-row
invariant-loop-row l = row_of (drop l.row-index l.rows) l.number ≡ row_of l.rows l.number
