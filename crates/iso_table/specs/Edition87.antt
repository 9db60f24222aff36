-- The built-in tables, of the 1987 edition.
use Rattle.std.specs.Prelude.{◌≡◌, ℕ, ◌==◌, ◌&&◌, nat_le, Bool, List, [], ◌∷◌, find, Option, option_map, if◌then◌else◌}
use Rattle.iso_parts.specs.declared.class.CharClass.{CharClass}
use Rattle.iso_parts.specs.declared.class.CharClass.TheVariants.{N, AN, ANS, ZD, XN, B}
use Rattle.iso_parts.specs.declared.encoding.Coding.{Coding}
use Rattle.iso_parts.specs.declared.encoding.Coding.TheVariants as codings
use Rattle.iso_parts.specs.declared.digits.Digits.{Digits}
use Rattle.iso_parts.specs.declared.digits.Digits.TheVariants as digits
use Rattle.iso_parts.specs.declared.prefix.Length.{Length}
use Rattle.iso_parts.specs.declared.prefix.Length.TheVariants as lengths
use Rattle.iso_parts.specs.declared.padding.Pad.{Pad}
use Rattle.iso_parts.specs.declared.padding.Pad.TheVariants as pads
use Rattle.iso_parts.specs.declared.spec.FieldSpec.{FieldSpec}
use Rattle.iso_parts.specs.declared.bitmap.BitmapCoding.{BitmapCoding}
use Rattle.iso_parts.specs.declared.bitmap.BitmapCoding.TheVariants as bitmaps
use Rattle.iso_table.specs.declared.edition87.LengthKind.{LengthKind}
use Rattle.iso_table.specs.declared.edition87.LengthKind.TheVariants.{Fixed, LL, LLL}
use Rattle.iso_table.specs.declared.edition87.EditionLine.{EditionLine}
use Rattle.iso_table.specs.Layout.{Layout, row_at}

-- how long a value is: which length stands before it, and how much of it there is at most
pub record Extent : Type 0 where
  pub kind : LengthKind
  pub max : ℕ

-- always so long, with no length before it
abbrev pub fixed : ℕ → Extent
fixed size = record { kind = Fixed; max = size }

-- at most so long, with a length of two digits before it
abbrev pub llvar : ℕ → Extent
llvar max = record { kind = LL; max = max }

-- at most so long, with a length of three digits before it
abbrev pub lllvar : ℕ → Extent
lllvar max = record { kind = LLL; max = max }

-- one line of the table below
abbrev pub line : ℕ → ℕ → CharClass → Extent → Pad → EditionLine
line first last class extent pad = record {
  first = first;
  last = last;
  class = class;
  kind = extent.kind;
  max = extent.max;
  pad = pad;
}

-- no padding
abbrev pub none : Pad
none = pads.None

-- filled up with blanks at the end
abbrev pub blanks : Pad
blanks = pads.Right 0x20

-- the elements from a first to a last number, with their class, length and padding
abbrev pub lines : List EditionLine
lines =
    line 2 2 N (llvar 19) none ∷  -- primary account number (PAN)
    line 3 3 N (fixed 6) none ∷  -- processing code
    line 4 6 N (fixed 12) none ∷  -- amounts: transaction, settlement, cardholder billing
    line 7 7 N (fixed 10) none ∷  -- transmission date and time
    line 8 10 N (fixed 8) none ∷  -- cardholder billing fee, conversion rates
    line 11 12 N (fixed 6) none ∷  -- system trace audit number, local time
    line 13 18 N (fixed 4) none ∷  -- dates: local, expiry, settlement, conversion, capture; MCC
    line 19 24 N (fixed 3) none ∷  -- country codes, entry mode, card sequence number, network
    line 25 26 N (fixed 2) none ∷  -- point of service: condition code, PIN capture code
    line 27 27 N (fixed 1) none ∷  -- authorization identification response length
    line 28 31 XN (fixed 9) none ∷  -- fees
    line 32 33 N (llvar 11) none ∷  -- acquiring and forwarding institution
    line 34 34 ANS (llvar 28) none ∷  -- PAN, extended
    line 35 35 ZD (llvar 37) none ∷  -- track 2
    line 36 36 ZD (lllvar 104) none ∷  -- track 3
    line 37 37 ANS (fixed 12) none ∷  -- retrieval reference number
    line 38 38 ANS (fixed 6) none ∷  -- authorization identification response
    line 39 39 AN (fixed 2) none ∷  -- response code
    line 40 40 AN (fixed 3) none ∷  -- service restriction code
    line 41 41 ANS (fixed 8) blanks ∷  -- terminal
    line 42 42 ANS (fixed 15) blanks ∷  -- card acceptor
    line 43 43 ANS (fixed 40) blanks ∷  -- card acceptor's name and location
    line 44 44 ANS (llvar 25) none ∷  -- additional response data
    line 45 45 ANS (llvar 76) none ∷  -- track 1
    line 46 48 ANS (lllvar 999) none ∷  -- additional data: ISO, national, private
    line 49 51 AN (fixed 3) none ∷  -- currency codes
    line 52 52 B (fixed 8) none ∷  -- PIN data
    line 53 53 N (fixed 16) none ∷  -- security related control information
    line 54 54 ANS (lllvar 120) none ∷  -- additional amounts
    line 55 55 B (lllvar 999) none ∷  -- reserved, ISO (chip data)
    line 56 63 ANS (lllvar 999) none ∷  -- reserved: ISO, national, private
    line 64 64 B (fixed 8) none ∷  -- message authentication code
    line 66 66 N (fixed 1) none ∷  -- settlement code
    line 67 67 N (fixed 2) none ∷  -- extended payment code
    line 68 70 N (fixed 3) none ∷  -- country codes, network management information code
    line 71 72 N (fixed 4) none ∷  -- message numbers
    line 73 73 N (fixed 6) none ∷  -- date, action
    line 74 81 N (fixed 10) none ∷  -- counts: credit, debit, transfer, inquiry, authorization
    line 82 85 N (fixed 12) none ∷  -- fees of credits and debits
    line 86 89 N (fixed 16) none ∷  -- amounts of credits and debits
    line 90 90 N (fixed 42) none ∷  -- original data elements
    line 91 91 AN (fixed 1) none ∷  -- file update code
    line 92 92 AN (fixed 2) none ∷  -- file security code
    line 93 93 AN (fixed 5) none ∷  -- response indicator
    line 94 94 AN (fixed 7) none ∷  -- service indicator
    line 95 95 AN (fixed 42) none ∷  -- replacement amounts
    line 96 96 B (fixed 8) none ∷  -- message security code
    line 97 97 XN (fixed 17) none ∷  -- amount, net settlement
    line 98 98 ANS (fixed 25) blanks ∷  -- payee
    line 99 100 N (llvar 11) none ∷  -- settlement and receiving institution
    line 101 101 ANS (llvar 17) none ∷  -- file name
    line 102 103 ANS (llvar 28) none ∷  -- account identifications
    line 104 104 ANS (lllvar 100) none ∷  -- transaction description
    line 105 127 ANS (lllvar 999) none ∷  -- reserved: ISO, national, private
    line 128 128 B (fixed 8) none ∷ []  -- message authentication code

-- whether the line is of element n
abbrev pub has_number : ℕ → EditionLine → Bool
has_number n l = nat_le l.first n && nat_le n l.last

-- the length, written in these digits
abbrev pub length_of : LengthKind → Digits → Length
length_of Fixed d = lengths.Fixed
length_of LL d = lengths.LL d
length_of LLL d = lengths.LLL d

-- how element n is written: where digits are ASCII, bytes are too, but for element 55
abbrev pub coding_of : Digits → ℕ → CharClass → Coding
coding_of digits.Bcd n N = codings.Bcd
coding_of digits.Bcd n B = codings.Raw
coding_of digits.Bcd n c = codings.Ascii
coding_of digits.Ascii n B = if n == 55 then codings.Raw else codings.HexText
coding_of digits.Ascii n c = codings.Ascii

-- the row of element n by its line
abbrev pub spec_of : Digits → ℕ → EditionLine → FieldSpec
spec_of d n l = record {
  class = l.class;
  coding = coding_of d n l.class;
  length = length_of l.kind d;
  max = l.max;
  pad = l.pad;
}

-- the row of element n
abbrev pub row87 : Digits → ℕ → Option FieldSpec
row87 d n = option_map (spec_of d n) (find (has_number n) lines)

-- how the bitmaps are written: where digits are ASCII, in hexadecimal digits
abbrev pub bitmap87 : Digits → BitmapCoding
bitmap87 digits.Ascii = bitmaps.Hex
bitmap87 digits.Bcd = bitmaps.Raw

-- the table of the 1987 edition whose digits are written so
pub record IsEdition87 (d : Digits) (t : Layout) : Type 0 where
  pub version : t.version ≡ 0
  pub mti : t.mti ≡ d
  pub bitmap : t.bitmap ≡ bitmap87 d
  pub rows : (n : ℕ) → row_at t.rows n ≡ row87 d n
