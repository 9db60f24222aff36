-- Orders that a survey passed over.
use Rattle.std.proofs.Common.{◌≡◌, ℕ, List}
use Rattle.iso_books.specs.Condition.{condition_left}

-- so many orders were passed over
abbrev pub Goes : ℕ → List ℕ → List ℕ → Type 0
Goes count file rest = condition_left 0 file ≡ condition_left count rest
