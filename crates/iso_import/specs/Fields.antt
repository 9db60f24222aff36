-- What the fields of a specification of moov-io/iso8583 are in a row.
use Rattle.std.specs.Prelude.{ℕ, ◌==◌, ◌&&◌, ◌||◌, Bool, true, false, List, [], ◌∷◌, Option, None, Some, unwrap_or, if◌then◌else◌, codes}
use Rattle.std.specs.Str.{bytes_eq}
use Rattle.serde_json.specs.Data.{Data}
use Rattle.serde_json.specs.Find.{get}
use Rattle.iso_parts.specs.declared.class.CharClass.{CharClass}
use Rattle.iso_parts.specs.declared.class.CharClass.TheVariants.{N, ANS, B}
use Rattle.iso_parts.specs.declared.encoding.Coding.{Coding}
use Rattle.iso_parts.specs.declared.encoding.Coding.TheVariants as codings
use Rattle.iso_parts.specs.declared.digits.Digits.{Digits}
use Rattle.iso_parts.specs.declared.digits.Digits.TheVariants as digits
use Rattle.iso_parts.specs.declared.prefix.Length.{Length}
use Rattle.iso_parts.specs.declared.prefix.Length.TheVariants as lengths
use Rattle.iso_parts.specs.declared.padding.Pad.{Pad}
use Rattle.iso_parts.specs.declared.padding.Pad.TheVariants as pads
use Rattle.iso_parts.specs.declared.bitmap.BitmapCoding.{BitmapCoding}
use Rattle.iso_parts.specs.declared.bitmap.BitmapCoding.TheVariants as bitmaps
use Rattle.iso_parts.specs.declared.spec.FieldSpec.{FieldSpec}
use Rattle.iso_table.specs.Members.{text_at, whole_at, ◌>>=◌}
use Rattle.iso_import.specs.Kinds.{Named, named_in}

-- what values of a type are, and how an encoding writes them
abbrev pub coded_in : List ℕ → List ℕ → Option (CharClass × Coding)
coded_in type encoding =
    if bytes_eq type (codes "Numeric") then named_in
    ((codes "ASCII", (N, codings.Ascii)) ∷ (codes "BCD", (N, codings.Bcd)) ∷ []) encoding
    else if bytes_eq type (codes "String") then named_in
    ((codes "ASCII", (ANS, codings.Ascii)) ∷ (codes "BCD", (N, codings.Bcd)) ∷ []) encoding
    else if bytes_eq type (codes "Binary") then named_in
    ((codes "Binary", (B, codings.Raw)) ∷ (codes "HexToASCII", (B, codings.HexText)) ∷ []) encoding
    else None

-- the prefixes, and the length that each tells
abbrev pub prefixes : List (Named Length)
prefixes =
    (codes "ASCII.Fixed", lengths.Fixed)
    ∷ (codes "BCD.Fixed", lengths.Fixed)
    ∷ (codes "Binary.Fixed", lengths.Fixed)
    ∷ (codes "Hex.Fixed", lengths.Fixed)
    ∷ (codes "ASCII.LL", lengths.LL digits.Ascii)
    ∷ (codes "ASCII.LLL", lengths.LLL digits.Ascii)
    ∷ (codes "ASCII.LLLL", lengths.LLLL digits.Ascii)
    ∷ (codes "BCD.LL", lengths.LL digits.Bcd)
    ∷ (codes "BCD.LLL", lengths.LLL digits.Bcd)
    ∷ (codes "BCD.LLLL", lengths.LLLL digits.Bcd)
    ∷ []

-- what a member says; the empty text where it is no text, or isn't there
abbrev pub said : List ℕ → Data → List ℕ
said key field = unwrap_or (text_at key field) []

-- whether a class is of digits alone
abbrev pub is_digits : CharClass → Bool
is_digits N = true
is_digits class = false

-- a padding by its side and what fills it up: zeros before digits are digits of the value
abbrev pub pad_said : CharClass → List ℕ → List ℕ → Option Pad
pad_said class side fill =
    if (bytes_eq side (codes "Left") && bytes_eq fill (codes "0")) && is_digits class
    then Some pads.None
    else if bytes_eq side (codes "Left") && bytes_eq fill (codes " ") then Some (pads.Left 0x20)
    else if bytes_eq side (codes "Right") && bytes_eq fill (codes " ") then Some (pads.Right 0x20)
    else if bytes_eq side (codes "None") || bytes_eq side [] then Some pads.None
    else None

-- the padding that a field has, where it has a member for it
abbrev pub pad_in : CharClass → Option Data → Option Pad
pad_in class None = Some pads.None
pad_in class (Some padding) =
    pad_said class (said (codes "type") padding) (said (codes "pad") padding)

-- the row that a field tells, good or not
abbrev pub row_in : Data → Option FieldSpec
row_in field =
    coded_in (said (codes "type") field) (said (codes "enc") field)
    >>= λ coded. named_in prefixes (said (codes "prefix") field)
    >>= λ length. pad_in coded.0 (get (codes "padding") field)
    >>= λ pad. whole_at (codes "length") 65535 field
    >>= λ max. Some (record {
      class = coded.0;
      coding = coded.1;
      length = length;
      max = max;
      pad = pad;
    })

-- ---- the type and the bitmaps

-- whether it is a length that no prefix tells
abbrev pub is_untold : Option Length → Bool
is_untold (Some lengths.Fixed) = true
is_untold other = false

-- whether a field's values all have one length
abbrev pub is_fixed : Data → Bool
is_fixed field = is_untold (named_in prefixes (said (codes "prefix") field))

-- the most characters of a field's values, 0 where that is no number
abbrev pub most_of : Data → ℕ
most_of field = unwrap_or (whole_at (codes "length") 65535 field) 0

-- field 0 is the message type: four digits, and its encoding says how they are written
abbrev pub mti_coded : ℕ → Data → Option Digits
mti_coded number field = if number == 0 && is_fixed field && most_of field == 4 then named_in
    ((codes "ASCII", digits.Ascii) ∷ (codes "BCD", digits.Bcd) ∷ []) (said (codes "enc") field)
    else None

-- field 1 is the bitmaps, and its encoding says how they are written
abbrev pub bitmap_coded : ℕ → Data → Option BitmapCoding
bitmap_coded number field = if number == 1 && is_fixed field then named_in
    ((codes "HexToASCII", bitmaps.Hex) ∷ (codes "Binary", bitmaps.Raw) ∷ [])
    (said (codes "enc") field)
    else None
