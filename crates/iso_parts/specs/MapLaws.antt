-- What holds of every bitmap (ISO 8583:1987, primary and secondary bitmap).
use Rattle.std.specs.Prelude.{◌≡◌, ℕ, ◌-◌, ◌<◌, ◌≤◌, ◌^◌, ◌==◌, Bool, List, length, Some}
use Rattle.std.specs.Int.{bit_at}
use Rattle.hex.specs.Hex.{IsBytes}
use Rattle.iso_parts.specs.declared.bitmap.BitmapCoding.{BitmapCoding}
use Rattle.iso_parts.specs.Bitmap.{BitsIn, PlainBitmaps, map_size}
use Rattle.iso_parts.specs.BitmapReading.{word_in}

-- whether bit k of a word is set, the most significant being bit 1
abbrev pub has_bit : ℕ → ℕ → Bool
has_bit word k = bit_at word (64 - k) == 1

-- the bytes tell a word that has exactly the bits of the set
pub record IsWordOf (c : BitmapCoding) (set : ℕ → Bool) (b : List ℕ) : Type 0 where
  pub word : ℕ
  pub read : word_in c b ≡ Some word
  pub small : word < 2 ^ 64
  pub size : length b ≡ map_size c
  pub bits : (k : ℕ) → 0 < k → k ≤ 64 → has_bit word k ≡ set k

-- what holds of every bitmap
pub record MapLaws : Type 0 where
  -- a bitmap of a set is read as a word with its bits
  pub again : (c : BitmapCoding) (set : ℕ → Bool) (b : List ℕ) → IsBytes b → BitsIn c set b
      → IsWordOf c set b
  -- the bytes of a word that is read are a bitmap of its bits
  pub taken : (c : BitmapCoding) (b : List ℕ) (word : ℕ) → IsBytes b → length b ≡ map_size c
      → word_in c b ≡ Some word → (word < 2 ^ 64) × BitsIn c (has_bit word) b
  -- each set has bitmaps as they are written,
  pub some : (c : BitmapCoding) (set : ℕ → Bool) → (b : List ℕ) × PlainBitmaps c set b
  -- and only one,
  pub once : (c : BitmapCoding) (set : ℕ → Bool) (a b : List ℕ) → PlainBitmaps c set a
      → PlainBitmaps c set b → a ≡ b
  -- of at most 32 bytes
  pub short : (c : BitmapCoding) (set : ℕ → Bool) (b : List ℕ) → PlainBitmaps c set b
      → length b ≤ 32
