-- Worked examples: what keys write, and what the fields of a small specification tell.
use Rattle.std.proofs.Common.{◌≡◌, ℕ, List, Some, None, refl, codes}
use Rattle.serde_json.specs.Data.{Data, Members, member, no_members, number, object, string, unsigned}
use Rattle.iso_parts.specs.declared.bitmap.BitmapCoding.TheVariants as bitmaps
use Rattle.iso_parts.specs.declared.class.CharClass.TheVariants as classes
use Rattle.iso_parts.specs.declared.digits.Digits.TheVariants as digits
use Rattle.iso_parts.specs.declared.encoding.Coding.TheVariants as codings
use Rattle.iso_parts.specs.declared.padding.Pad.TheVariants as pads
use Rattle.iso_parts.specs.declared.prefix.Length.TheVariants as lengths
use Rattle.iso_import.specs.Told.{bitmap_told, first_told, mti_told, number_in, row_told}

-- zeros in front, or a plus, change no number
zeros_in_front : number_in (codes "002") ≡ Some 2
zeros_in_front = refl

plus_in_front : number_in (codes "+39") ≡ Some 39
plus_in_front = refl

-- these write none
no_digits : number_in (codes "") ≡ None
no_digits = refl

letter : number_in (codes "2a") ≡ None
letter = refl

too_large : number_in (codes "65536") ≡ None
too_large = refl

-- a field of digits in ASCII with so many characters
abbrev numeric : List ℕ → ℕ → Data
numeric encoding length = object (member (codes "enc") (string encoding)
    (member (codes "length") (number (unsigned length))
    (member (codes "prefix") (string (codes "ASCII.Fixed"))
    (member (codes "type") (string (codes "Numeric")) no_members))))

-- a type in BCD, bitmaps in bytes, and three fields: two of number 3, and one whose values are too long for a row
abbrev fields : Members
fields = member (codes "0") (numeric (codes "BCD") 4)
    (member (codes "03") (numeric (codes "ASCII") 6)
    (member (codes "1") (numeric (codes "Binary") 8)
    (member (codes "3") (numeric (codes "ASCII") 4)
    (member (codes "4") (numeric (codes "ASCII") 1000) no_members))))

type_in_bcd : first_told mti_told fields ≡ Some digits.Bcd
type_in_bcd = refl

bitmaps_in_bytes : first_told bitmap_told fields ≡ Some bitmaps.Raw
bitmaps_in_bytes = refl

-- the first of two stands
first_of_two : first_told (row_told 3) fields ≡ Some (record {
  class = classes.N;
  coding = codings.Ascii;
  length = lengths.Fixed;
  max = 6;
  pad = pads.None;
})
first_of_two = refl

-- no row has so many characters, and none is of element 5
too_long : first_told (row_told 4) fields ≡ None
too_long = refl

not_there : first_told (row_told 5) fields ≡ None
not_there = refl
