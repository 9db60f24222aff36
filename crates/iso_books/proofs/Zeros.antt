-- Zeros that were let go.
use Rattle.std.proofs.Common.{◌≡◌, ℕ, List}
use Rattle.std.specs.List.{list_all}
use Rattle.iso_books.specs.Records.{is_zero}

-- what was let go is zeros
abbrev pub SameZeros : List ℕ → List ℕ → Type 0
SameZeros file rest = list_all is_zero file ≡ list_all is_zero rest
