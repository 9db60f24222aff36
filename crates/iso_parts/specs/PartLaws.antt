-- What holds of the parts of every good row (ISO 8583:1987, structure of an element).
use Rattle.std.specs.Prelude.{◌≡◌, ◌↔◌, ℕ, ◌+◌, ◌*◌, ◌≤◌, ◌<◌, List, ◌++◌, length, take, None, Err}
use Rattle.hex.specs.Hex.{IsBytes}
use Rattle.iso_parts.specs.declared.spec.FieldSpec.{FieldSpec}
use Rattle.iso_parts.specs.declared.fault.FieldFault.{FieldFault}
use Rattle.iso_parts.specs.declared.fault.FieldFault.TheVariants.{BadLengthDigits, LengthOver, BadFiller, BadHex, NotInClass}
use Rattle.iso_parts.specs.Part.{Part, Body, with_padding, plain_part}
use Rattle.iso_parts.specs.Reading.{FieldReading, got, more, fault, prefix_size, prefix_of, body_size, body_of, part_at}
use Rattle.iso_parts.specs.Spec.{Fits, IsGood, refusal}

-- bytes are missing
abbrev pub IsMore : FieldReading → Type 0
IsMore more = Unit {0}
IsMore (got v n) = ⊥
IsMore (fault e) = ⊥

-- what is read of so many bytes takes at most the most of them; where bytes are missing, they are fewer
abbrev pub IsUpTo : ℕ → ℕ → FieldReading → Type 0
IsUpTo most len (got v used) = used ≤ most
IsUpTo most len more = len < most
IsUpTo most len (fault e) = Unit {0}

-- the faults of a length
abbrev pub IsLengthFault : FieldFault → Type 0
IsLengthFault BadLengthDigits = Unit {0}
IsLengthFault LengthOver = Unit {0}
IsLengthFault other = ⊥

-- the faults of a body
abbrev pub IsBodyFault : FieldFault → Type 0
IsBodyFault BadFiller = Unit {0}
IsBodyFault BadHex = Unit {0}
IsBodyFault NotInClass = Unit {0}
IsBodyFault other = ⊥

-- what holds of every part of a value
pub record PartLaws : Type 0 where
  -- a part of a value is read as that value and no byte more, whatever bytes follow
  pub again : (s : FieldSpec) (v b rest : List ℕ) → IsGood s → Part s v b
      → part_at s (b ++ rest) ≡ got v (length b)
  -- the bytes of a value that is read are a part of it
  pub taken : (s : FieldSpec) (b v : List ℕ) (n : ℕ) → IsGood s → IsBytes b → part_at s b ≡ got v n
      → (n ≤ length b) × Part s v (take n b)
  -- what is read stays, whatever bytes follow, unless bytes were missing
  pub stays : (s : FieldSpec) (b rest : List ℕ) → (IsMore (part_at s b) → ⊥)
      → part_at s (b ++ rest) ≡ part_at s b
  -- a value fits exactly where nothing refuses it
  pub fits : (s : FieldSpec) (v : List ℕ) → Fits s v ↔ (refusal s v ≡ None)
  -- the part that is written for a value is a part of it
  pub plain : (s : FieldSpec) (v : List ℕ) → IsGood s → Fits s v → IsBytes v
      → Part s v (plain_part s v)
  -- it has at most two bytes a character, and four
  pub short : (s : FieldSpec) (v : List ℕ) → Fits s v → length (plain_part s v) ≤ 2 * s.max + 4
  -- a part takes at most as many bytes as its row's longest one, and bytes that end inside a part are fewer
  pub most : (s : FieldSpec) (b : List ℕ)
      → IsUpTo (prefix_size s.length + body_size s.coding s.max) (length b) (part_at s b)
  -- a length that isn't good has a fault of lengths, and a body one of bodies
  pub length_fault : (s : FieldSpec) (p : List ℕ) (e : FieldFault) → prefix_of s p ≡ Err e
      → IsLengthFault e
  pub body_fault : (s : FieldSpec) (n : ℕ) (b : List ℕ) (e : FieldFault) → body_of s n b ≡ Err e
      → IsBodyFault e
  -- all bodies of one value have one length
  pub sized : (s : FieldSpec) (v b : List ℕ) → Body s v b
      → length b ≡ body_size s.coding (length (with_padding s v))
