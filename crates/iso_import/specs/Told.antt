-- What a specification of moov-io/iso8583 tells of a table, and what a fault tells of a text.
use Rattle.std.specs.Prelude.{◌≡◌, ℕ, ◌+◌, ◌^◌, ◌==◌, ◌&&◌, nat_lt, Bool, false, List, length, slice_index, Option, None, Some, is_none, is_some, unwrap_or, IsTrue, if◌then◌else◌, codes}
use Rattle.std.specs.List.{list_all}
use Rattle.std.specs.Option.{option_or}
use Rattle.std.specs.Char.{is_digit}
use Rattle.std.specs.Str.{IsUtf8, trim_start}
use Rattle.std.specs.Str.Parse.{digits_value, without_leading_plus}
use Rattle.serde_json.specs.Data.{Data, Members, no_members, member}
use Rattle.serde_json.specs.Find.{as_object, get}
use Rattle.serde_json.specs.Read.{read}
use Rattle.iso_parts.specs.Numbers.{is_element}
use Rattle.iso_parts.specs.Spec.{spec_fault}
use Rattle.iso_parts.specs.declared.bitmap.BitmapCoding.{BitmapCoding}
use Rattle.iso_parts.specs.declared.bitmap.BitmapCoding.TheVariants as bitmaps
use Rattle.iso_parts.specs.declared.digits.Digits.{Digits}
use Rattle.iso_parts.specs.declared.digits.Digits.TheVariants as digits
use Rattle.iso_parts.specs.declared.spec.FieldSpec.{FieldSpec}
use Rattle.iso_table.specs.Accepted.{DraftContents, row_of}
use Rattle.iso_table.specs.Members.{◌>>=◌, member_count}
use Rattle.iso_import.specs.Fields.{bitmap_coded, mti_coded, row_in}
use Rattle.iso_import.specs.Found.{one_if}
use Rattle.iso_import.specs.declared.fault.ImportFault.{ImportFault}
use Rattle.iso_import.specs.declared.fault.ImportFault.TheVariants as faults

-- ---- one field

-- decimal digits alone
abbrev pub are_digits : List ℕ → Bool
are_digits ds = list_all (λ d. is_digit d 10) ds

-- the number that one decimal digit or more write, below 65536
abbrev pub number_of : List ℕ → Option ℕ
number_of ds =
    if nat_lt 0 (length ds) && are_digits ds && nat_lt (digits_value 10 ds) (2 ^ 16)
    then Some (digits_value 10 ds)
    else None

-- the number that a key writes, with a plus in front or none
abbrev pub number_in : List ℕ → Option ℕ
number_in key = number_of (without_leading_plus key)

-- how a field says that the type is written
abbrev pub mti_told : List ℕ → Data → Option Digits
mti_told key field = number_in key >>= λ number. mti_coded number field

-- how a field says that the bitmaps are written
abbrev pub bitmap_told : List ℕ → Data → Option BitmapCoding
bitmap_told key field = number_in key >>= λ number. bitmap_coded number field

-- the row, where nothing is wrong with it
abbrev pub good_row : FieldSpec → Option FieldSpec
good_row spec = if is_none (spec_fault spec) then Some spec else None

-- the good row that a field tells, whatever its number
abbrev pub good_row_in : Data → Option FieldSpec
good_row_in field = row_in field >>= good_row

-- the good row that a field tells, where its key writes this number
abbrev pub row_told : ℕ → List ℕ → Data → Option FieldSpec
row_told number key field =
    number_in key >>= λ told. if told == number then good_row_in field else None

-- ---- all fields, in the order of the bytes of their keys

-- what the first field tells that tells such a thing
abbrev pub first_told : {A : Type 0} → (List ℕ → Data → Option A) → Members → Option A
first_told tells no_members = None
first_told tells (member key field rest) = option_or (tells key field) (first_told tells rest)

-- a draft has what fields tell: the rows, and how the type and the bitmaps are written, ASCII else
pub record IsToldBy (fields : Members) (draft : DraftContents) : Type 0 where
  pub mti : draft.mti ≡ unwrap_or (first_told mti_told fields) digits.Ascii
  pub bitmap : draft.bitmap ≡ unwrap_or (first_told bitmap_told fields) bitmaps.Hex
  pub rows : (number : ℕ) → IsTrue (is_element number)
      → row_of draft.rows number ≡ first_told (row_told number) fields

-- one for the type, where a field tells it, and one for the bitmaps
abbrev pub front_count : Members → ℕ
front_count fields =
    one_if (is_some (first_told mti_told fields)) + one_if (is_some (first_told bitmap_told fields))

-- how many fields aren't in the draft: each other one is a row, the type or the bitmaps
abbrev pub AreLeft : Members → DraftContents → ℕ → Type 0
AreLeft fields draft left = left + (length draft.rows + front_count fields) ≡ member_count fields

-- ---- a text

-- the fields of a specification
abbrev pub fields_in : Data → Option Members
fields_in value = get (codes "fields") value >>= as_object

-- the text begins with that character, white space aside
abbrev pub begins_with : ℕ → List ℕ → Bool
begins_with character text = slice_index (trim_start text) 0 == character

-- what begins with `<` is taken as a packager
abbrev pub is_packager : List ℕ → Bool
is_packager text = begins_with 0x3C text

-- what begins with `{` is taken as a specification
abbrev pub is_specification : List ℕ → Bool
is_specification text = begins_with 0x7B text

-- the text is JSON whose fields tell the draft, with a sentence for each other field
pub record IsOfFields (text : List ℕ) (draft : DraftContents) (sentences : ℕ) : Type 0 where
  pub value : Data
  pub fields : Members
  pub reads : read text ≡ Some value
  pub found : fields_in value ≡ Some fields
  pub told : IsToldBy fields draft
  pub left : AreLeft fields draft sentences

-- why a text is refused
abbrev pub Refuses : List ℕ → ImportFault → Type 0
Refuses text faults.NotText = IsUtf8 text → ⊥
Refuses text faults.Neither = (is_packager text ≡ false) × (is_specification text ≡ false)
Refuses text faults.NoPackager = IsTrue (is_packager text)
Refuses text faults.Markup = IsTrue (is_packager text)
Refuses text (faults.NotJson line column) =
    IsTrue (is_specification text) × (read text ≡ None)
Refuses text faults.NoFields = IsTrue (is_specification text)
    × ((value : Data) × (read text ≡ Some value) × (fields_in value ≡ None))
Refuses text faults.Memory = Unit {0}

-- why a text that begins so is refused
abbrev pub RefusesAs : (List ℕ → Bool) → List ℕ → ImportFault → Type 0
RefusesAs begins text fault = IsTrue (begins text) → Refuses text fault
