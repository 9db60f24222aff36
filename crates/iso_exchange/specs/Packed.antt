-- Numbers in packed digits, two a byte.
use Rattle.std.specs.Prelude.{◌≡◌, ◌≤◌, ℕ, zero, suc, ◌+◌, ◌*◌, ◌/◌, ◌%◌, List, [], ◌∷◌, ◌++◌, Option, Some}
use Rattle.iso_parts.specs.declared.class.CharClass.TheVariants as classes
use Rattle.iso_parts.specs.declared.digits.Digits.TheVariants as kinds
use Rattle.iso_parts.specs.declared.encoding.Coding.TheVariants as codings
use Rattle.iso_parts.specs.declared.padding.Pad.TheVariants as pads
use Rattle.iso_parts.specs.declared.prefix.Length.TheVariants as lengths
use Rattle.iso_parts.specs.declared.spec.FieldSpec.{FieldSpec}
use Rattle.iso_table.specs.Layout.{row_at}

-- the last digits of a number, twice as many as bytes
abbrev pub packed : ℕ → ℕ → List ℕ
packed zero v = []
packed (suc n) v = packed n (v / 100) ++ (16 * (v / 10 % 10) + v % 10) ∷ []

-- each value of the row is of digits, two a byte, and none is padded
pub record HasPackedDigits (s : FieldSpec) : Type 0 where
  pub class : s.class ≡ classes.N
  pub coding : s.coding ≡ codings.Bcd
  pub pad : s.pad ≡ pads.None

-- each value of the row is so many digits, twice as many as bytes, and has no length before it
pub record IsPacked (s : FieldSpec) (bytes : ℕ) : Type 0 where
  pub digits : HasPackedDigits s
  pub length : s.length ≡ lengths.Fixed
  pub max : s.max ≡ 2 * bytes

-- each value of the row is of digits, two a byte, with its count in a byte before it, and may have so many digits
pub record IsCounted (s : FieldSpec) (digits : ℕ) : Type 0 where
  pub packed : HasPackedDigits s
  pub length : s.length ≡ lengths.LL kinds.Bcd
  pub most : digits ≤ s.max

-- so many digits of a number, behind their count
abbrev pub counted : ℕ → ℕ → List ℕ
counted digits v = (16 * (digits / 10) + digits % 10) ∷ packed ((digits + 1) / 2) v

-- the element has a row, and each value of it is so many digits, twice as many as bytes
abbrev pub IsPackedAt : List (Option FieldSpec) → ℕ → ℕ → Type 0
IsPackedAt rows n bytes = (s : FieldSpec) × (row_at rows n ≡ Some s) × IsPacked s bytes

-- the table packs the elements 3, 4, 7 and 11, in 6, 12, 10 and 6 digits
pub record ArePacked (rows : List (Option FieldSpec)) : Type 0 where
  pub processing : IsPackedAt rows 3 3
  pub amount : IsPackedAt rows 4 6
  pub sent : IsPackedAt rows 7 5
  pub stan : IsPackedAt rows 11 3
