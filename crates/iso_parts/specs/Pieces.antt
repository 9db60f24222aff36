-- The two pieces of a part, each when it is whole: its length, and its body. What a good one tells, and the first thing
-- that is wrong with a bad one (ISO 8583:1987, structure of an element: length and data).
use Rattle.std.specs.Prelude.{◌≡◌, ℕ, ◌<◌, ◌≤◌, false, List, [], length}
use Rattle.iso_parts.specs.declared.encoding.Coding.TheVariants.{Bcd, HexText}
use Rattle.iso_parts.specs.declared.prefix.Length.{Length}
use Rattle.iso_parts.specs.declared.prefix.Length.TheVariants.{Fixed}
use Rattle.iso_parts.specs.declared.spec.FieldSpec.{FieldSpec}
use Rattle.iso_parts.specs.declared.fault.FieldFault.{FieldFault}
use Rattle.iso_parts.specs.declared.fault.FieldFault.TheVariants.{BadLengthDigits, LengthOver, BadFiller, BadHex, NotInClass}
use Rattle.iso_parts.specs.Class.{is_in_class}
use Rattle.iso_parts.specs.Part.{prefix, with_pads, Stands}
use Rattle.iso_parts.specs.Spec.{has_pad_end, limit}

-- the bytes are the digits of this count; no bytes tell the maximum of a fixed length
abbrev pub TellsCount : Length → ℕ → ℕ → List ℕ → Type 0
TellsCount Fixed max c p = (p ≡ []) × (c ≡ max)
TellsCount k max c p = (c ≤ limit k) × (p ≡ prefix k c)

-- the bytes of a length tell this count of characters
abbrev pub IsCount : FieldSpec → ℕ → List ℕ → Type 0
IsCount s c p = TellsCount s.length s.max c p

-- the bytes of a body stand for these characters, so many of them
abbrev pub IsText : FieldSpec → ℕ → List ℕ → List ℕ → Type 0
IsText s c w p = Stands s.coding p w × (length w ≡ c)

-- the value is what the characters are without the row's padding
abbrev pub IsBare : FieldSpec → List ℕ → List ℕ → Type 0
IsBare s v w = (n : ℕ) × (with_pads s.pad n v ≡ w) × (has_pad_end s.pad v ≡ false)

-- the first thing that is wrong with a whole length: it isn't of digits, or it tells more than the maximum
abbrev pub IsBadCount : FieldSpec → List ℕ → FieldFault → Type 0
IsBadCount s p BadLengthDigits = (c : ℕ) → IsCount s c p → ⊥
IsBadCount s p LengthOver = (c : ℕ) × IsCount s c p × (s.max < c)
IsBadCount s p other = ⊥

-- the first thing that is wrong with a whole body of so many characters: its filler or its hexadecimal digits, then the
-- class of its value
abbrev pub IsBadBody : FieldSpec → ℕ → List ℕ → FieldFault → Type 0
IsBadBody s c p BadFiller = (s.coding ≡ Bcd) × ((w : List ℕ) → IsText s c w p → ⊥)
IsBadBody s c p BadHex = (s.coding ≡ HexText) × ((w : List ℕ) → IsText s c w p → ⊥)
IsBadBody s c p NotInClass = (w : List ℕ) × (v : List ℕ) × IsText s c w p × IsBare s v w
    × (is_in_class s.class v ≡ false)
IsBadBody s c p other = ⊥
