-- Bitmaps: which element numbers are in the set, and the bytes that say so (ISO 8583:1987, primary and secondary bitmap).
use Rattle.std.specs.Prelude.{◌≡◌, ◌≢◌, ◌⊎◌, ℕ, ◌+◌, ◌-◌, ◌<◌, ◌≤◌, ◌==◌, ◌&&◌, nat_le, Bool, true, false, List, length, take, drop, Ok, if◌then◌else◌}
use Rattle.std.specs.Int.{bit_at, w64, from_be_bytes}
use Rattle.hex.specs.Hex.{IsBytes, decode_of, encode_upper}
use Rattle.iso_parts.specs.declared.bitmap.Bitmap.{Bitmap}
use Rattle.iso_parts.specs.declared.bitmap.BitmapCoding.{BitmapCoding}
use Rattle.iso_parts.specs.declared.bitmap.BitmapCoding.TheVariants.{Raw, Hex}

-- ---- the set

-- whether the number is in the set that two words keep
abbrev pub in_words : ℕ → ℕ → ℕ → Bool
in_words primary secondary n =
    if nat_le n 64 then bit_at primary (64 - n) == 1
    else nat_le n 128 && bit_at secondary (128 - n) == 1

-- whether the number is in the set
abbrev pub contains : Bitmap → ℕ → Bool
contains s n = in_words s.primary s.secondary n

-- each number of the set is that of an element: 2 to 64, 66 to 128
abbrev pub AreElements : (ℕ → Bool) → Type 0
AreElements set = (n : ℕ) → set n ≡ true → (2 ≤ n) × (n ≤ 128) × (n ≢ 65)

-- the greatest number of the set, or 0 for none
abbrev pub IsHighest : (ℕ → Bool) → ℕ → Type 0
IsHighest set n = ((n ≡ 0) ⊎ (set n ≡ true)) × ((k : ℕ) → n < k → k ≤ 128 → set k ≡ false)

-- a number above 64 is in the set
abbrev pub HasAbove : (ℕ → Bool) → Type 0
HasAbove set = (k : ℕ) × (64 < k) × (k ≤ 128) × (set k ≡ true)

-- ---- one bitmap

-- bit k of eight bytes, the most significant being bit 1
abbrev pub bit_of : List ℕ → ℕ → Bool
bit_of b k = bit_at (from_be_bytes w64 b) (64 - k) == 1

-- the eight bytes have exactly the bits of the set
pub record Bits (set : ℕ → Bool) (b : List ℕ) : Type 0 where
  pub eight : length b ≡ 8
  pub bit : (k : ℕ) → 0 < k → k ≤ 64 → bit_of b k ≡ set k

-- how many bytes a bitmap takes
abbrev pub map_size : BitmapCoding → ℕ
map_size Raw = 8
map_size Hex = 16

-- the bytes are a bitmap of the set: raw, or as hexadecimal digits of either case
abbrev pub BitsIn : BitmapCoding → (ℕ → Bool) → List ℕ → Type 0
BitsIn Raw set b = Bits set b
BitsIn Hex set b = (raw : List ℕ) × (decode_of b ≡ Ok raw) × Bits set raw

-- ---- the primary bitmap, and the secondary one where it follows

-- the primary bitmap, whose bit 1 says whether a secondary one follows
abbrev pub primary_bits : Bool → (ℕ → Bool) → ℕ → Bool
primary_bits secondary set k = if k == 1 then secondary else set k

-- the secondary bitmap
abbrev pub secondary_bits : (ℕ → Bool) → ℕ → Bool
secondary_bits set k = set (64 + k)

-- the bytes are the two bitmaps of the set
pub record Two (c : BitmapCoding) (set : ℕ → Bool) (b : List ℕ) : Type 0 where
  pub primary : BitsIn c (primary_bits true set) (take (map_size c) b)
  pub secondary : BitsIn c (secondary_bits set) (drop (map_size c) b)

-- the bytes are the only bitmap of the set
pub record One (c : BitmapCoding) (set : ℕ → Bool) (b : List ℕ) : Type 0 where
  pub primary : BitsIn c (primary_bits false set) b
  pub none : (k : ℕ) → 64 < k → k ≤ 128 → set k ≡ false

-- the bytes are the bitmaps of the set, two of them or one
abbrev pub Bitmaps : BitmapCoding → Bool → (ℕ → Bool) → List ℕ → Type 0
Bitmaps c true set b = Two c set b
Bitmaps c false set b = One c set b

-- ---- the bitmaps that are written

-- eight or sixteen bytes as they are written, hexadecimal digits in upper case
abbrev pub in_coding : BitmapCoding → List ℕ → List ℕ
in_coding Raw b = b
in_coding Hex b = encode_upper b

-- the bytes are the bitmaps as they are written: raw bytes in the coding, the secondary bitmap only where a number
-- above 64 is in the set
pub record PlainBitmaps (c : BitmapCoding) (set : ℕ → Bool) (b : List ℕ) : Type 0 where
  pub two : Bool
  pub raw : List ℕ
  pub fits : IsBytes raw
  pub maps : Bitmaps Raw two set raw
  pub needed : two ≡ true → HasAbove set
  pub bytes : b ≡ in_coding c raw
  pub spelled : Bitmaps c two set b
