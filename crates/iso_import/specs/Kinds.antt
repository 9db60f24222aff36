-- What the fields of other programs' tables are in a row, by the names that they have there.
use Rattle.std.specs.Prelude.{◌≡◌, ℕ, ◌==◌, ◌||◌, List, [], ◌∷◌, find, Option, None, Some, option_map, if◌then◌else◌, codes}
use Rattle.std.specs.Option.{option_or}
use Rattle.std.specs.Str.{bytes_eq}
use Rattle.iso_parts.specs.declared.class.CharClass.{CharClass}
use Rattle.iso_parts.specs.declared.class.CharClass.TheVariants.{N, ANS, Z, ZD, XN, B}
use Rattle.iso_parts.specs.declared.encoding.Coding.{Coding}
use Rattle.iso_parts.specs.declared.encoding.Coding.TheVariants as codings
use Rattle.iso_parts.specs.declared.digits.Digits.{Digits}
use Rattle.iso_parts.specs.declared.digits.Digits.TheVariants as digits
use Rattle.iso_parts.specs.declared.prefix.Length.{Length}
use Rattle.iso_parts.specs.declared.prefix.Length.TheVariants as lengths
use Rattle.iso_parts.specs.declared.padding.Pad.TheVariants as pads
use Rattle.iso_parts.specs.declared.bitmap.BitmapCoding.{BitmapCoding}
use Rattle.iso_parts.specs.declared.bitmap.BitmapCoding.TheVariants as bitmaps
use Rattle.iso_parts.specs.declared.spec.FieldSpec.{FieldSpec}
use Rattle.iso_parts.specs.Spec.{IsGood}
use Rattle.iso_table.specs.declared.draft.Row.{Row}
use Rattle.iso_table.specs.Members.{◌>>=◌}
use Rattle.iso_import.specs.declared.kinds.Kind.{Kind}
use Rattle.iso_import.specs.declared.kinds.Bytes.{Bytes}
use Rattle.iso_import.specs.declared.kinds.Bytes.TheVariants as bytes

-- a name there, and what it is here
abbrev pub Named : Type 0 → Type 0
Named A = List ℕ × A

-- what a name is here, if it is one of these
abbrev pub named_in : {A : Type 0} → List (Named A) → List ℕ → Option A
named_in names name = option_map (λ one. one.1) (find (λ one. bytes_eq name one.0) names)

-- ---- a packager of jPOS

-- values that nothing fills up
abbrev pub plain : CharClass → Coding → Length → Kind
plain class coding length =
    record { class = class; coding = coding; length = length; pad = pads.None }

-- text that blanks fill up behind it
abbrev pub filled : Kind
filled = record {
  class = ANS;
  coding = codings.Ascii;
  length = lengths.Fixed;
  pad = pads.Right 0x20;
}

-- the classes whose values, and their lengths, are characters in ASCII
abbrev pub ascii_classes : List (Named Kind)
ascii_classes =
    (codes "IF_CHAR", filled)
    ∷ (codes "IFA_NUMERIC", plain N codings.Ascii lengths.Fixed)
    ∷ (codes "IFA_LLNUM", plain N codings.Ascii (lengths.LL digits.Ascii))
    ∷ (codes "IFA_LLLNUM", plain N codings.Ascii (lengths.LLL digits.Ascii))
    ∷ (codes "IFA_LLCHAR", plain ANS codings.Ascii (lengths.LL digits.Ascii))
    ∷ (codes "IFA_LLLCHAR", plain ANS codings.Ascii (lengths.LLL digits.Ascii))
    ∷ (codes "IFA_LLLLCHAR", plain ANS codings.Ascii (lengths.LLLL digits.Ascii))
    ∷ (codes "IFA_AMOUNT", plain XN codings.Ascii lengths.Fixed)
    ∷ (codes "IFA_BINARY", plain B codings.HexText lengths.Fixed)
    ∷ []

-- those whose values are in BCD or bytes, or stand behind lengths in BCD
abbrev pub bcd_classes : List (Named Kind)
bcd_classes =
    (codes "IFB_NUMERIC", plain N codings.Bcd lengths.Fixed)
    ∷ (codes "IFB_LLNUM", plain N codings.Bcd (lengths.LL digits.Bcd))
    ∷ (codes "IFB_LLLNUM", plain N codings.Bcd (lengths.LLL digits.Bcd))
    ∷ (codes "IFB_LLCHAR", plain ANS codings.Ascii (lengths.LL digits.Bcd))
    ∷ (codes "IFB_LLLCHAR", plain ANS codings.Ascii (lengths.LLL digits.Bcd))
    ∷ (codes "IFB_BINARY", plain B codings.Raw lengths.Fixed)
    ∷ (codes "IFB_LLBINARY", plain B codings.Raw (lengths.LL digits.Bcd))
    ∷ (codes "IFB_LLLBINARY", plain B codings.Raw (lengths.LLL digits.Bcd))
    ∷ []

-- the lengths of those of which a packager doesn't say how their bytes stand
abbrev pub bytes_lengths : List (Named Length)
bytes_lengths =
    (codes "IFA_LLBINARY", lengths.LL digits.Ascii)
    ∷ (codes "IFA_LLLBINARY", lengths.LLL digits.Ascii)
    ∷ []

-- how bytes are written, where that is known
abbrev pub coding_of : Bytes → Option Coding
coding_of bytes.Unknown = None
coding_of bytes.Hex = Some codings.HexText
coding_of bytes.Raw = Some codings.Raw

-- bytes behind a length in ASCII, where their coding is known
abbrev pub bytes_kind : Bytes → List ℕ → Option Kind
bytes_kind stand name = coding_of stand >>= λ coding. named_in bytes_lengths name
    >>= λ length. Some (plain B coding length)

-- what a class of that name is in a row, where an odd count of BCD digits is filled in front
abbrev pub kind_of : Bytes → List ℕ → Option Kind
kind_of stand name =
    option_or (named_in ascii_classes name)
    (option_or (named_in bcd_classes name) (bytes_kind stand name))

-- the row, with the most characters of its values
abbrev pub row_with : Kind → ℕ → FieldSpec
row_with k max =
    record { class = k.class; coding = k.coding; length = k.length; max = max; pad = k.pad }

-- a track's digits have a separator among them, in BCD as in ASCII
abbrev pub track_class : CharClass → Coding → CharClass
track_class N codings.Bcd = Z
track_class N coding = ZD
track_class class coding = class

-- the row of a track
abbrev pub on_track : FieldSpec → FieldSpec
on_track s = record {
  class = track_class s.class s.coding;
  coding = s.coding;
  length = s.length;
  max = s.max;
  pad = s.pad;
}

-- the row of that number: of 35 and 36, track 2 and track 3, that of a track
abbrev pub laid_out : ℕ → FieldSpec → FieldSpec
laid_out number s = if number == 35 || number == 36 then on_track s else s

-- a good row of that number, as a class of jPOS has it
pub record IsOfClass (stand : Bytes) (number : ℕ) (spec : FieldSpec) : Type 0 where
  pub name : List ℕ
  pub kind : Kind
  pub max : ℕ
  pub named : kind_of stand name ≡ Some kind
  pub laid : spec ≡ laid_out number (row_with kind max)
  pub good : IsGood spec

-- each row is as a class of jPOS has it
abbrev pub AreOfClasses : Bytes → List Row → Type 0
AreOfClasses stand [] = Unit {0}
AreOfClasses stand (r ∷ rs) = IsOfClass stand r.number r.spec × AreOfClasses stand rs

-- field 0 is the message type, and its class says how its digits are written
abbrev pub mti_named : ℕ → List ℕ → Option Digits
mti_named number name = if number == 0 then named_in
    ((codes "IFA_NUMERIC", digits.Ascii) ∷ (codes "IFB_NUMERIC", digits.Bcd) ∷ []) name
    else None

-- field 1 is the bitmaps, and its class says how they are written
abbrev pub bitmap_named : ℕ → List ℕ → Option BitmapCoding
bitmap_named number name = if number == 1 then named_in
    ((codes "IFA_BITMAP", bitmaps.Hex) ∷ (codes "IFB_BITMAP", bitmaps.Raw) ∷ []) name
    else None
