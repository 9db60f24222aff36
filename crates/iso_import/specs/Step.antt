-- What one field changes.
-- Inner: bodies and proofs cite it.
use Rattle.std.specs.Prelude.{◌≡◌, ℕ, IsTrue, List}
use Rattle.std.specs.Option.{option_or}
use Rattle.serde_json.specs.Data.{Data, Members}
use Rattle.iso_parts.specs.Numbers.{is_element}
use Rattle.iso_parts.specs.declared.spec.FieldSpec.{FieldSpec}
use Rattle.iso_table.specs.Accepted.{row_of}
use Rattle.iso_import.specs.Found.{draft_of, Found}
use Rattle.iso_import.specs.Told.{bitmap_told, mti_told, row_told, AreLeft, IsToldBy}

-- what a field tells is found, where no earlier one told it
pub record TakesField (key : List ℕ) (field : Data) (old new : Found) : Type 0 where
  pub mti : new.mti ≡ option_or old.mti (mti_told key field)
  pub bitmap : new.bitmap ≡ option_or old.bitmap (bitmap_told key field)
  pub rows : (number : ℕ) → IsTrue (is_element number)
      → row_of new.rows number ≡ option_or (row_of old.rows number) (row_told number key field)

-- any row
abbrev pub IsRow : ℕ → FieldSpec → Type 0
IsRow number spec = Unit {0}

-- the draft of what was found has what the fields tell, whatever its edition, all but so many
pub record AreFound (fields : Members) (f : Found) (left : ℕ) : Type 0 where
  pub told : (edition : ℕ) → IsToldBy fields (draft_of edition f)
  pub others : (edition : ℕ) → AreLeft fields (draft_of edition f) left
