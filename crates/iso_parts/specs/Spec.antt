-- Which rows are good, and which values fit one.
use Rattle.std.specs.Prelude.{◌≡◌, ℕ, ◌==◌, ◌&&◌, nat_le, Bool, true, false, not, List, [], ◌∷◌, length, reverse, Option, Some, None, IsTrue, if◌then◌else◌}
use Rattle.iso_parts.specs.declared.class.CharClass.{CharClass}
use Rattle.iso_parts.specs.declared.class.CharClass.TheVariants as classes
use Rattle.iso_parts.specs.declared.encoding.Coding.{Coding}
use Rattle.iso_parts.specs.declared.encoding.Coding.TheVariants as codings
use Rattle.iso_parts.specs.declared.prefix.Length.{Length}
use Rattle.iso_parts.specs.declared.prefix.Length.TheVariants as lengths
use Rattle.iso_parts.specs.declared.padding.Pad.{Pad}
use Rattle.iso_parts.specs.declared.padding.Pad.TheVariants as pads
use Rattle.iso_parts.specs.declared.spec.FieldSpec.{FieldSpec}
use Rattle.iso_parts.specs.declared.spec.SpecFault.{SpecFault}
use Rattle.iso_parts.specs.declared.spec.SpecFault.TheVariants.{BadMax, CodingClass, PadNotAllowed}
use Rattle.iso_parts.specs.declared.fault.FieldFault.{FieldFault}
use Rattle.iso_parts.specs.declared.fault.FieldFault.TheVariants.{WrongLength, NotInClass, PadEnd}
use Rattle.iso_parts.specs.Class.{is_within, is_in_class}

-- ---- good rows

-- the most characters of a value: four digits can tell no more
abbrev pub longest_value : ℕ
longest_value = 9999

-- the greatest count that the length's digits can tell; without digits that of three
abbrev pub limit : Length → ℕ
limit (lengths.LL d) = 99
limit (lengths.LLL d) = 999
limit (lengths.LLLL d) = longest_value
limit lengths.Fixed = 999

-- whether the length can tell the row's maximum, which isn't 0
abbrev pub is_good_max : FieldSpec → Bool
is_good_max s = is_within 1 (limit s.length) s.max

-- whether values of the class may be coded so
abbrev pub is_coded : Coding → CharClass → Bool
is_coded codings.Ascii classes.B = false
is_coded codings.Ascii c = true
is_coded codings.Bcd classes.N = true
is_coded codings.Bcd classes.Z = true
is_coded codings.Bcd c = false
is_coded codings.Raw classes.B = true
is_coded codings.Raw c = false
is_coded codings.HexText classes.B = true
is_coded codings.HexText c = false

-- whether the byte may be a pad
abbrev pub is_pad_byte : Coding → ℕ → Bool
is_pad_byte codings.Ascii p = is_within 0x20 0x7E p
is_pad_byte codings.Bcd p = is_within 0x30 0x3F p
is_pad_byte codings.Raw p = false
is_pad_byte codings.HexText p = false

-- whether values of the class may be padded
abbrev pub is_text : CharClass → Bool
is_text classes.XN = false
is_text classes.B = false
is_text c = true

-- whether values of the class may be padded under that length
abbrev pub is_padded : CharClass → Length → Bool
is_padded c lengths.Fixed = is_text c
is_padded c (lengths.LL d) = false
is_padded c (lengths.LLL d) = false
is_padded c (lengths.LLLL d) = false

-- whether the row may have this padding
abbrev pub is_good_pad : FieldSpec → Pad → Bool
is_good_pad s pads.None = true
is_good_pad s (pads.Left p) = is_padded s.class s.length && is_pad_byte s.coding p
is_good_pad s (pads.Right p) = is_padded s.class s.length && is_pad_byte s.coding p

-- the first thing that is wrong with a row
abbrev pub spec_fault : FieldSpec → Option SpecFault
spec_fault s =
    if not (is_good_max s) then Some BadMax
    else if not (is_coded s.coding s.class) then Some CodingClass
    else if not (is_good_pad s s.pad) then Some PadNotAllowed
    else None

-- a row with nothing wrong
pub record IsGood (s : FieldSpec) : Type 0 where
  pub max : IsTrue (is_good_max s)
  pub coding : IsTrue (is_coded s.coding s.class)
  pub pad : IsTrue (is_good_pad s s.pad)

-- ---- values that fit

-- whether each value of the row has the maximal length
abbrev pub is_exact : Length → Pad → Bool
is_exact lengths.Fixed pads.None = true
is_exact l p = false

-- whether a value of the row may have n characters
abbrev pub is_length : FieldSpec → ℕ → Bool
is_length s n = if is_exact s.length s.pad then n == s.max else nat_le n s.max

-- whether the byte stands first
abbrev pub begins_with : ℕ → List ℕ → Bool
begins_with p [] = false
begins_with p (x ∷ xs) = x == p

-- whether the pad byte stands at the padded end
abbrev pub has_pad_end : Pad → List ℕ → Bool
has_pad_end pads.None v = false
has_pad_end (pads.Left p) v = begins_with p v
has_pad_end (pads.Right p) v = begins_with p (reverse v)

-- the value can be written under the row
pub record Fits (s : FieldSpec) (v : List ℕ) : Type 0 where
  pub length : IsTrue (is_length s (length v))
  pub class : IsTrue (is_in_class s.class v)
  pub pad : has_pad_end s.pad v ≡ false

-- the first reason why a value doesn't fit
abbrev pub refusal : FieldSpec → List ℕ → Option FieldFault
refusal s v =
    if not (is_length s (length v)) then Some WrongLength
    else if not (is_in_class s.class v) then Some NotInClass
    else if has_pad_end s.pad v then Some PadEnd
    else None
