-- What is taken of another program's table.
use Rattle.std.specs.Prelude.{◌≡◌, ◌⊎◌, ◌+◌, ℕ, ◌==◌, ◌&&◌, ◌||◌, Bool, false, List, [], ◌∷◌, ◌++◌, length, Option, None, is_none, is_some, unwrap_or, IsTrue, if◌then◌else◌}
use Rattle.std.specs.List.{list_any}
use Rattle.std.specs.Option.{option_or}
use Rattle.iso_parts.specs.Numbers.{is_element}
use Rattle.iso_parts.specs.Spec.{IsGood}
use Rattle.iso_parts.specs.declared.bitmap.BitmapCoding.{BitmapCoding}
use Rattle.iso_parts.specs.declared.bitmap.BitmapCoding.TheVariants as bitmaps
use Rattle.iso_parts.specs.declared.digits.Digits.{Digits}
use Rattle.iso_parts.specs.declared.digits.Digits.TheVariants as digits
use Rattle.iso_parts.specs.declared.spec.FieldSpec.{FieldSpec}
use Rattle.iso_table.specs.declared.draft.Row.{Row}
use Rattle.iso_table.specs.Accepted.{AreRows, DraftContents, HasEachOnce}
use Rattle.iso_import.specs.declared.taken.Taken.{Taken}

-- ---- rows that a table can have

-- one of the rows has that number
abbrev pub has_number : List Row → ℕ → Bool
has_number rows number = list_any (λ row. row.number == number) rows

-- a row of that number, so laid out, can stand beside the others
pub record CanJoin (others : List Row) (number : ℕ) (spec : FieldSpec) : Type 0 where
  pub element : IsTrue (is_element number)
  pub good : IsGood spec
  pub free : has_number others number ≡ false

-- rows that a table can have: each of an element and good, no two of one number
pub record CanStand (rows : List Row) : Type 0 where
  pub good : AreRows rows
  pub once : HasEachOnce rows

-- a draft of the edition that is asked for, with rows that a table can have
pub record IsDraftOf (edition : ℕ) (draft : DraftContents) : Type 0 where
  pub version : draft.version ≡ edition
  pub rows : CanStand draft.rows

-- one more row
abbrev pub with_row : List Row → ℕ → FieldSpec → List Row
with_row rows number spec = rows ++ record { number = number; spec = spec } ∷ []

-- a row of which that holds joins the others
pub record Joins (Holds : ℕ → FieldSpec → Type 0) (old new : List Row) : Type 0 where
  pub number : ℕ
  pub spec : FieldSpec
  pub holds : Holds number spec
  pub can : CanJoin old number spec
  pub joined : new ≡ with_row old number spec

-- the rows stay, or one of which that holds joins them
abbrev pub GoOn : (ℕ → FieldSpec → Type 0) → List Row → List Row → Type 0
GoOn Holds old new = (new ≡ old) ⊎ Joins Holds old new

-- ---- what was found so far

-- how the type and the bitmaps are written, where a field said it, and the rows
pub record Found : Type 0 where
  pub mti : Option Digits
  pub bitmap : Option BitmapCoding
  pub rows : List Row

-- what was taken, without the sentences, and without where its rows lie in memory
abbrev pub found : Taken → Found
found t = record { mti = t.mti; bitmap = t.bitmap; rows = t.rows.items }

-- nothing yet
abbrev pub nothing_found : Found
nothing_found = record { mti = None; bitmap = None; rows = [] }

-- the draft of that edition; what no field said is in ASCII
abbrev pub draft_of : ℕ → Found → DraftContents
draft_of edition f = record {
  version = edition;
  mti = unwrap_or f.mti digits.Ascii;
  bitmap = unwrap_or f.bitmap bitmaps.Hex;
  rows = f.rows;
}

-- how the type and the bitmaps are written is taken over, where no earlier field said it
pub record TakesFront (old new : Found) (mti_said : Option Digits)
    (bitmap_said : Option BitmapCoding) (is_new : Bool) : Type 0 where
  pub mti : new.mti ≡ option_or old.mti mti_said
  pub bitmap : new.bitmap ≡ option_or old.bitmap bitmap_said
  pub rows : new.rows ≡ old.rows
  pub taken : is_new
      ≡ (is_none old.mti && is_some mti_said) || (is_none old.bitmap && is_some bitmap_said)

-- one where it was said, else none
abbrev pub one_if : Bool → ℕ
one_if is_said = if is_said then 1 else 0

-- how many fields were taken: one for each row, for the type and for the bitmaps
abbrev pub found_count : Found → ℕ
found_count f = length f.rows + one_if (is_some f.mti) + one_if (is_some f.bitmap)
