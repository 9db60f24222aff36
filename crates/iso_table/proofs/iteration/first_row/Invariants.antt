use Rattle.std.proofs.Common.{◌≡◌, ◌+◌, length}
use Rattle.iso_table.specs.Rows.{rows_from}
use Rattle.iso_table.proofs.iteration.first_row.Given as goal

-- no row was passed
abbrev pub invariant-loop-place : goal.invariant-loop-place
invariant-loop-place l = record { same : rows_from l.number l.places ≡ rows_from l.fn.number l.fn.places; room : l.number + length l.places ≡ l.fn.number + length l.fn.places }

abbrev pub decreases-loop-place : goal.decreases-loop-place
decreases-loop-place l = length l.places
