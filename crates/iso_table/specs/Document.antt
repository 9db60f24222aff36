-- A table as a JSON document, of profile 1 or 2.
use Rattle.std.specs.Prelude.{◌≡◌, ℕ, ◌+◌, ◌==◌, Bool, false, true, List, [], ◌∷◌, Option, None, Some, option_map, Result, Ok, Err, if◌then◌else◌, codes}
use Rattle.std.specs.Str.{IsUtf8, bytes_eq}
use Rattle.serde_json.specs.Data.{Data, number, unsigned, string, array, object, Items, no_items, item, Members, no_members, member}
use Rattle.serde_json.specs.Find.{get, as_array}
use Rattle.serde_json.specs.Read.{read}
use Rattle.iso_parts.specs.declared.class.CharClass.{CharClass}
use Rattle.iso_parts.specs.declared.encoding.Coding.{Coding}
use Rattle.iso_parts.specs.declared.digits.Digits.{Digits}
use Rattle.iso_parts.specs.declared.prefix.Length.{Length}
use Rattle.iso_parts.specs.declared.prefix.Length.TheVariants as lengths
use Rattle.iso_parts.specs.declared.padding.Pad.{Pad}
use Rattle.iso_parts.specs.declared.spec.FieldSpec.{FieldSpec}
use Rattle.iso_parts.specs.declared.bitmap.BitmapCoding.{BitmapCoding}
use Rattle.iso_table.specs.declared.draft.Row.{Row}
use Rattle.iso_table.specs.declared.reading.Profile.{Profile}
use Rattle.iso_table.specs.declared.reading.Profile.TheVariants.{One, Two}
use Rattle.iso_table.specs.declared.fault.TableFault.{TableFault}
use Rattle.iso_table.specs.declared.fault.TableFault.TheVariants as faults
use Rattle.iso_table.specs.Layout.{Layout}
use Rattle.iso_table.specs.Accepted.{DraftContents, Holds, draft_fault}
use Rattle.iso_table.specs.Members.{has_size, text_at, ◌>>=◌, whole_at}
use Rattle.iso_table.specs.Names.{class_name, class_named, coding_name, coding_named, digits_name, digits_named, bitmap_name, bitmap_named, length_name, pad_name, pad_named}

-- ---- what a document says

-- the profile of this number
abbrev pub profile_numbered : ℕ → Option Profile
profile_numbered n = if n == 1 then Some One else if n == 2 then Some Two else None

-- whether documents of the profile may have lengths of four digits
abbrev pub has_four_digits : Profile → Bool
has_four_digits One = false
has_four_digits Two = true

-- the kind of digits at a member
abbrev pub digits_at : List ℕ → Data → Option Digits
digits_at key d = text_at key d >>= digits_named

-- how the digits of a length are written, in an object that has the member `prefix` too
abbrev pub prefix_in : Data → Option Digits
prefix_in d = if has_size 7 d then digits_at (codes "prefix") d else None

-- the length of this name, in an object of six members, or of seven with the digits of `LL`, `LLL` and `LLLL`
abbrev pub length_by : Profile → Data → List ℕ → Option Length
length_by p d t =
    if bytes_eq t (codes "fixed") then (if has_size 6 d then Some lengths.Fixed else None)
    else if bytes_eq t (codes "LL") then option_map lengths.LL (prefix_in d)
    else if bytes_eq t (codes "LLL") then option_map lengths.LLL (prefix_in d)
    else if bytes_eq t (codes "LLLL")
    then (if has_four_digits p then option_map lengths.LLLL (prefix_in d) else None)
    else None

-- the length of a row
abbrev pub length_in : Profile → Data → Option Length
length_in p d = text_at (codes "length") d >>= length_by p d

-- the class of a row
abbrev pub class_in : Data → Option CharClass
class_in d = text_at (codes "class") d >>= class_named

-- the coding of a row
abbrev pub coding_in : Data → Option Coding
coding_in d = text_at (codes "coding") d >>= coding_named

-- the padding of a row
abbrev pub pad_in : Data → Option Pad
pad_in d = text_at (codes "pad") d >>= pad_named

-- how the field of a row is laid out
abbrev pub spec_in : Profile → Data → Option FieldSpec
spec_in p d = do
  class ← class_in d
  coding ← coding_in d
  length ← length_in p d
  max ← whole_at (codes "max") 65535 d
  pad ← pad_in d
  Some (record { class = class; coding = coding; length = length; max = max; pad = pad })

-- a row
abbrev pub document_row : Profile → Data → Option Row
document_row p d = do
  n ← whole_at (codes "number") 65535 d
  spec ← spec_in p d
  Some (record { number = n; spec = spec })

-- the rows of a list, each of them one
abbrev pub rows_in : Profile → Items → Option (List Row)
rows_in p no_items = Some []
rows_in p (item d ds) = document_row p d >>= (λ row. option_map (λ rows. row ∷ rows) (rows_in p ds))

-- how both bitmaps are written
abbrev pub bitmap_in : Data → Option BitmapCoding
bitmap_in d = text_at (codes "bitmap") d >>= bitmap_named

-- the rows of an object
abbrev pub list_in : Profile → Data → Option (List Row)
list_in p d = get (codes "rows") d >>= as_array >>= rows_in p

-- a draft of these parts, if the rows are some
abbrev pub with_rows : ℕ → Digits → BitmapCoding → Option (List Row) → Option DraftContents
with_rows version mti bitmap rows =
    option_map (λ rows. record { version = version; mti = mti; bitmap = bitmap; rows = rows }) rows

-- the draft that the members say
abbrev pub members_in : Profile → Data → Option DraftContents
members_in p d = do
  version ← whole_at (codes "version") 255 d
  mti ← digits_at (codes "mti") d
  bitmap ← bitmap_in d
  with_rows version mti bitmap (list_in p d)

-- the draft of an object of the five members and no others
abbrev pub contents_in : Profile → Data → Option DraftContents
contents_in p d = if has_size 5 d then members_in p d else None

-- the draft, or that the shape is another
abbrev pub or_shape : Option DraftContents → Result DraftContents TableFault
or_shape None = Err faults.Shape
or_shape (Some c) = Ok c

-- the draft under a profile that is known: another profile is told before anything else
abbrev pub by_known : Option Profile → Data → Result DraftContents TableFault
by_known None d = Err faults.Profile
by_known (Some p) d = or_shape (contents_in p d)

-- the draft of the profile with this number: no number is another shape
abbrev pub by_profile : Option ℕ → Data → Result DraftContents TableFault
by_profile None d = Err faults.Shape
by_profile (Some n) d = by_known (profile_numbered n) d

-- the draft that the data are, or what is wrong before the draft is checked
abbrev pub draft_in : Data → Result DraftContents TableFault
draft_in d = by_profile (whole_at (codes "profile") 65535 d) d

-- the draft, if there is no fault
abbrev pub or_fault : DraftContents → Option TableFault → Result DraftContents TableFault
or_fault c None = Ok c
or_fault c (Some e) = Err e

-- the draft, if it is accepted
abbrev pub accepted_draft : Result DraftContents TableFault → Result DraftContents TableFault
accepted_draft (Err e) = Err e
accepted_draft (Ok c) = or_fault c (draft_fault c)

-- the accepted draft that the data are, or the first fault
abbrev pub table_in : Data → Result DraftContents TableFault
table_in d = accepted_draft (draft_in d)

-- the text is JSON, and stands for the data
abbrev pub StandsFor : List ℕ → Data → Type 0
StandsFor text d = IsUtf8 text × (read text ≡ Some d)

-- the text is no JSON
abbrev pub IsNotJson : List ℕ → Type 0
IsNotJson text = IsUtf8 text → read text ≡ None

-- the text stands for the table
abbrev pub IsTableOf : List ℕ → Layout → Type 0
IsTableOf text t = (d : Data) × (c : DraftContents) × StandsFor text d × (table_in d ≡ Ok c)
    × Holds t c

-- the text is JSON, and this is the first thing wrong with it
abbrev pub IsDocumentFault : List ℕ → TableFault → Type 0
IsDocumentFault text e = (d : Data) × StandsFor text d × (table_in d ≡ Err e)

-- ---- the document of a table: members in the order of their names, rows in the order of their numbers

-- how the digits of a length are written
abbrev pub prefix_named : Length → Option Digits
prefix_named lengths.Fixed = None
prefix_named (lengths.LL d) = Some d
prefix_named (lengths.LLL d) = Some d
prefix_named (lengths.LLLL d) = Some d

-- the member of a length's digits, where there are some
abbrev pub prefix_members : Option Digits → Members
prefix_members None = no_members
prefix_members (Some d) = member (codes "prefix") (string (digits_name d)) no_members

-- the object of a row, with these names of its padding and of its length's digits
abbrev pub row_object : ℕ → FieldSpec → List ℕ → Option Digits → Data
row_object n s pad prefix =
    object (member (codes "class") (string (class_name s.class))
    (member (codes "coding") (string (coding_name s.coding))
    (member (codes "length") (string (length_name s.length))
    (member (codes "max") (number (unsigned s.max))
    (member (codes "number") (number (unsigned n))
    (member (codes "pad") (string pad) (prefix_members prefix)))))))

-- the object of the row of element n
abbrev pub row_data : ℕ → FieldSpec → Data
row_data n s = row_object n s (pad_name s.pad) (prefix_named s.length)

-- the rows from number n on
abbrev pub rows_data : ℕ → List (Option FieldSpec) → Items
rows_data n [] = no_items
rows_data n (None ∷ rs) = rows_data (n + 1) rs
rows_data n (Some s ∷ rs) = item (row_data n s) (rows_data (n + 1) rs)

-- the object of a table
abbrev pub document : Layout → Data
document t =
    object (member (codes "bitmap") (string (bitmap_name t.bitmap))
    (member (codes "mti") (string (digits_name t.mti))
    (member (codes "profile") (number (unsigned 2))
    (member (codes "rows") (array (rows_data 0 t.rows))
    (member (codes "version") (number (unsigned t.version)) no_members)))))
