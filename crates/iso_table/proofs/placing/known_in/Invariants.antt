use Rattle.std.proofs.Common.{◌≡◌, ℕ, ◌&&◌, nat_lt, is_some}
use Rattle.iso_parts.specs.Bitmap.{contains}
use Rattle.iso_table.specs.Layout.{row_at}
use Rattle.iso_table.proofs.placing.known_in.Given as goal

-- the set has the numbers so far that have a row
abbrev pub invariant-loop-number : goal.invariant-loop-number
invariant-loop-number l = record { so_far : (k : ℕ) → contains l.known k ≡ (nat_lt k l.number && is_some (row_at l.places k)) }
