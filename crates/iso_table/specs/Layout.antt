-- A table as its users see it: the rows stand at their numbers.
use Rattle.std.specs.Prelude.{◌≡◌, ℕ, ◌==◌, ◌||◌, Bool, is_some, IsTrue, List, length, slice_get, Option, Some}
use Rattle.std.specs.Option.{option_flatten}
use Rattle.iso_parts.specs.Numbers.{is_element}
use Rattle.iso_parts.specs.declared.digits.Digits.{Digits}
use Rattle.iso_parts.specs.declared.spec.FieldSpec.{FieldSpec}
use Rattle.iso_parts.specs.Spec.{IsGood}
use Rattle.iso_parts.specs.declared.bitmap.BitmapCoding.{BitmapCoding}

-- how messages are written: place n of the rows has the row of element n, if the element has one
pub record Layout : Type 0 where
  pub version : ℕ
  pub mti : Digits
  pub bitmap : BitmapCoding
  pub rows : List (Option FieldSpec)

-- the row of element n, if there is such a place and it has a row
abbrev pub row_at : List (Option FieldSpec) → ℕ → Option FieldSpec
row_at rows n = option_flatten (slice_get rows n)

-- the set has the numbers that have a row, and no other
abbrev pub Knows : (ℕ → Bool) → List (Option FieldSpec) → Type 0
Knows set rows = (n : ℕ) → set n ≡ is_some (row_at rows n)

-- each row that is there is good
abbrev pub AreGood : List (Option FieldSpec) → Type 0
AreGood rows = (n : ℕ) (s : FieldSpec) → row_at rows n ≡ Some s → IsGood s

-- the first digit of a message type that a table may be for
abbrev pub is_version : ℕ → Bool
is_version v = (v == 0 || v == 1) || (v == 2 || v == 9)

-- a table that was accepted
pub record IsAccepted (t : Layout) : Type 0 where
  pub version : IsTrue (is_version t.version)
  pub places : length t.rows ≡ 129
  pub numbers : (n : ℕ) (s : FieldSpec) → row_at t.rows n ≡ Some s → IsTrue (is_element n)
  pub good : AreGood t.rows
