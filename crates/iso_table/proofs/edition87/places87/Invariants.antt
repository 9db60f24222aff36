use Rattle.std.proofs.Common.{◌≡◌, ◌<◌, ℕ, length}
use Rattle.iso_table.specs.Layout.{row_at}
use Rattle.iso_table.specs.Edition87.{row87}
use Rattle.iso_table.proofs.edition87.places87.Given as goal

-- the places so far have their rows
-- there are 129 places, PLACES: one more than the highest number of an element
abbrev pub invariant-loop-number : goal.invariant-loop-number
invariant-loop-number l = record {
  size : length l.places ≡ 129;
  rows : (n : ℕ) → n < l.number → row_at l.places n ≡ row87 l.digits n;
}
