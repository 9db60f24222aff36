-- Where bytes stop being bitmaps, and why (ISO 8583:1987, primary and secondary bitmap). The bytes are good bitmaps and a
-- rest. The good ones call for the next one; in the rest it isn't whole, or it is whole and bad. Nothing is read here:
-- a bitmap is told by the bits of its bytes.
use Rattle.std.specs.Prelude.{◌≡◌, ℕ, ◌<◌, ◌≤◌, Bool, true, List, [], ◌++◌, length, take}
use Rattle.iso_parts.specs.declared.bitmap.BitmapCoding.{BitmapCoding}
use Rattle.iso_parts.specs.declared.bitmap.BitmapCause.{BitmapCause}
use Rattle.iso_parts.specs.declared.bitmap.BitmapCause.TheVariants.{BadHex, ThirdBitmap}
use Rattle.iso_parts.specs.Bitmap.{map_size, BitsIn, primary_bits, secondary_bits}

-- a bitmap, by its place: it is judged when it is whole
pub data MapPlace : Type 0 where
  primary : MapPlace
  secondary : MapPlace

-- the bytes are the good bitmaps before this one: none before the primary one; before the secondary one a primary one
-- whose bit 1 is set
abbrev pub AreMapsBefore : BitmapCoding → MapPlace → List ℕ → Type 0
AreMapsBefore c primary b = b ≡ []
AreMapsBefore c secondary b = (set : ℕ → Bool) × BitsIn c (primary_bits true set) b

-- what is wrong with a whole bitmap: it isn't of hexadecimal digits; or the secondary one is, and its bit 65 is set
abbrev pub IsBadMap : BitmapCoding → MapPlace → List ℕ → BitmapCause → Type 0
IsBadMap c primary p BadHex = (set : ℕ → Bool) → BitsIn c set p → ⊥
IsBadMap c primary p ThirdBitmap = ⊥
IsBadMap c secondary p BadHex = (set : ℕ → Bool) → BitsIn c set p → ⊥
IsBadMap c secondary p ThirdBitmap = (set : ℕ → Bool) × BitsIn c (secondary_bits set) p
    × (set 65 ≡ true)

-- the bytes end inside the bitmaps: they are good ones, and less than the whole next one
pub record EndsInMaps (c : BitmapCoding) (b : List ℕ) : Type 0 where
  pub good : List ℕ
  pub rest : List ℕ
  pub bytes : b ≡ good ++ rest
  pub next : MapPlace
  pub before : AreMapsBefore c next good
  pub short : length rest < map_size c

-- the bytes begin with bad bitmaps: behind good ones the next one, at this offset, is whole, and this is wrong with it
pub record AreBadMaps (c : BitmapCoding) (b : List ℕ) (at : ℕ) (cause : BitmapCause) : Type 0 where
  pub good : List ℕ
  pub rest : List ℕ
  pub bytes : b ≡ good ++ rest
  pub place : at ≡ length good
  pub next : MapPlace
  pub before : AreMapsBefore c next good
  pub whole : map_size c ≤ length rest
  pub bad : IsBadMap c next (take (map_size c) rest) cause
