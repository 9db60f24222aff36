-- How a document writes classes, codings, digits, bitmaps, lengths and paddings.
use Rattle.std.specs.Prelude.{ℕ, List, [], ◌∷◌, ◌++◌, length, take, drop, find, Option, None, Some, option_map, Result, Ok, Err, if◌then◌else◌, codes}
use Rattle.std.specs.Str.{bytes_eq}
use Rattle.hex.specs.Hex.{decode_sized, encode_upper}
use Rattle.hex.specs.declared.error.FromHexError.{FromHexError}
use Rattle.iso_parts.specs.declared.class.CharClass.{CharClass}
use Rattle.iso_parts.specs.declared.class.CharClass.TheVariants.{N, A, AN, ANS, Z, ZD, XN, B}
use Rattle.iso_parts.specs.declared.encoding.Coding.{Coding}
use Rattle.iso_parts.specs.declared.encoding.Coding.TheVariants as codings
use Rattle.iso_parts.specs.declared.digits.Digits.{Digits}
use Rattle.iso_parts.specs.declared.digits.Digits.TheVariants as digits
use Rattle.iso_parts.specs.declared.prefix.Length.{Length}
use Rattle.iso_parts.specs.declared.prefix.Length.TheVariants as lengths
use Rattle.iso_parts.specs.declared.padding.Pad.{Pad}
use Rattle.iso_parts.specs.declared.padding.Pad.TheVariants as pads
use Rattle.iso_parts.specs.declared.bitmap.BitmapCoding.{BitmapCoding}
use Rattle.iso_parts.specs.declared.bitmap.BitmapCoding.TheVariants as bitmaps

-- the text that a class is written as
abbrev pub class_name : CharClass → List ℕ
class_name N = codes "N"
class_name A = codes "A"
class_name AN = codes "AN"
class_name ANS = codes "ANS"
class_name Z = codes "Z"
class_name ZD = codes "ZD"
class_name XN = codes "XN"
class_name B = codes "B"

-- the class that is written so
abbrev pub class_named : List ℕ → Option CharClass
class_named t = find (λ c. bytes_eq t (class_name c)) (N ∷ A ∷ AN ∷ ANS ∷ Z ∷ ZD ∷ XN ∷ B ∷ [])

-- the text that a coding is written as
abbrev pub coding_name : Coding → List ℕ
coding_name codings.Ascii = codes "ascii"
coding_name codings.Bcd = codes "bcd"
coding_name codings.Raw = codes "raw"
coding_name codings.HexText = codes "hex"

-- the coding that is written so
abbrev pub coding_named : List ℕ → Option Coding
coding_named t = find (λ c. bytes_eq t (coding_name c))
    (codings.Ascii ∷ codings.Bcd ∷ codings.Raw ∷ codings.HexText ∷ [])

-- the text that a kind of digits is written as
abbrev pub digits_name : Digits → List ℕ
digits_name digits.Ascii = codes "ascii"
digits_name digits.Bcd = codes "bcd"

-- the kind of digits that is written so
abbrev pub digits_named : List ℕ → Option Digits
digits_named t = find (λ d. bytes_eq t (digits_name d)) (digits.Ascii ∷ digits.Bcd ∷ [])

-- the text that a coding of bitmaps is written as
abbrev pub bitmap_name : BitmapCoding → List ℕ
bitmap_name bitmaps.Raw = codes "raw"
bitmap_name bitmaps.Hex = codes "hex"

-- the coding of bitmaps that is written so
abbrev pub bitmap_named : List ℕ → Option BitmapCoding
bitmap_named t = find (λ b. bytes_eq t (bitmap_name b)) (bitmaps.Raw ∷ bitmaps.Hex ∷ [])

-- the name of a length, without how its digits are written
abbrev pub length_name : Length → List ℕ
length_name lengths.Fixed = codes "fixed"
length_name (lengths.LL d) = codes "LL"
length_name (lengths.LLL d) = codes "LLL"
length_name (lengths.LLLL d) = codes "LLLL"

-- the text that a padding is written as, its byte in upper-case digits
abbrev pub pad_name : Pad → List ℕ
pad_name pads.None = codes "none"
pad_name (pads.Left p) = codes "left:" ++ encode_upper (p ∷ [])
pad_name (pads.Right p) = codes "right:" ++ encode_upper (p ∷ [])

-- the only byte
abbrev pub only_byte : List ℕ → Option ℕ
only_byte [] = None
only_byte (b ∷ []) = Some b
only_byte (b ∷ c ∷ bs) = None

-- the byte that was decoded, if it was one
abbrev pub byte_by : Result (List ℕ) FromHexError → Option ℕ
byte_by (Ok bytes) = only_byte bytes
byte_by (Err e) = None

-- the byte of two hexadecimal digits, of either case
abbrev pub byte_of : List ℕ → Option ℕ
byte_of t = byte_by (decode_sized t 1)

-- what stands behind a beginning
abbrev pub behind : List ℕ → List ℕ → Option (List ℕ)
behind front t =
    if bytes_eq (take (length front) t) front then Some (drop (length front) t) else None

-- the padding whose byte stands behind `left:` or `right:`
abbrev pub pad_behind : Option (List ℕ) → Option (List ℕ) → Option Pad
pad_behind (Some t) right = option_map pads.Left (byte_of t)
pad_behind None (Some t) = option_map pads.Right (byte_of t)
pad_behind None None = None

-- the padding that is written so, its byte in digits of either case
abbrev pub pad_named : List ℕ → Option Pad
pad_named t = if bytes_eq t (codes "none") then Some pads.None
    else pad_behind (behind (codes "left:") t) (behind (codes "right:") t)
