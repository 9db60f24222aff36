-- How two messages differ.
use Rattle.std.specs.Prelude.{◌≡◌, ◌↔◌, ℕ, Bool, false, List}
use Rattle.iso_parts.specs.Bitmap.{contains}
use Rattle.iso_wire.specs.Contents.{Contents}
use Rattle.iso_wire.specs.Elements.{value_in}
use Rattle.iso_compare.specs.declared.difference.Difference.{Difference}

-- both have the same value at the number, or neither has one
abbrev pub IsSameAt : List (ℕ × List ℕ) → List (ℕ × List ℕ) → ℕ → Type 0
IsSameAt left right n = value_in left n ≡ value_in right n

-- the set has the numbers at which they differ, and no others
abbrev pub AreDiffering : List (ℕ × List ℕ) → List (ℕ × List ℕ) → (ℕ → Bool) → Type 0
AreDiffering left right set = (n : ℕ) → (set n ≡ false) ↔ IsSameAt left right n

-- whether the types differ, and at which elements the messages do
pub record Tells (left right : Contents) (d : Difference) : Type 0 where
  pub mti : (d.is_other_type ≡ false) ↔ (left.mti ≡ right.mti)
  pub elements : AreDiffering left.elements right.elements (contains d.elements)

-- neither the types differ nor any element
abbrev pub TellsNone : Difference → Type 0
TellsNone d = (d.is_other_type ≡ false) × ((n : ℕ) → contains d.elements n ≡ false)
