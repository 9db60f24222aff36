-- Reading bitmaps from the front of bytes, each one when it is whole.
use Rattle.std.specs.Prelude.{◌≡◌, ℕ, ◌+◌, ◌-◌, ◌<◌, ◌≤◌, ◌^◌, nat_lt, Bool, List, length, take, drop, Result, Ok, Err, Option, Some, None, if◌then◌else◌}
use Rattle.std.specs.Int.{w64, from_be_bytes}
use Rattle.hex.specs.Hex.{decode_of}
use Rattle.hex.specs.declared.error.FromHexError.{FromHexError}
use Rattle.iso_parts.specs.declared.bitmap.BitmapCoding.{BitmapCoding}
use Rattle.iso_parts.specs.declared.bitmap.BitmapCoding.TheVariants as codings
use Rattle.iso_parts.specs.declared.bitmap.BitmapCause.{BitmapCause}
use Rattle.iso_parts.specs.declared.bitmap.BitmapCause.TheVariants.{BadHex, ThirdBitmap}
use Rattle.iso_parts.specs.declared.bitmap.BitmapFault.{BitmapFault}
use Rattle.iso_parts.specs.declared.bitmap.BitmapStep.{BitmapStep}
use Rattle.iso_parts.specs.declared.bitmap.BitmapStep.TheVariants as steps
use Rattle.iso_parts.specs.Bitmap.{map_size, contains, in_words, Bitmaps}

-- ---- one bitmap

-- the word of the bytes that digits tell, if they are digits
abbrev pub word_of : Result (List ℕ) FromHexError → Option ℕ
word_of (Ok raw) = Some (from_be_bytes w64 raw)
word_of (Err e) = None

-- the word that a whole bitmap tells, its first bit the most significant
abbrev pub word_in : BitmapCoding → List ℕ → Option ℕ
word_in codings.Raw b = Some (from_be_bytes w64 b)
word_in codings.Hex b = word_of (decode_of b)

-- a word from here on has its first bit set
abbrev pub top : ℕ
top = 0x8000000000000000

-- ---- the bitmaps at the front of bytes

-- the words of a set, without the first bit, and how many bytes they take; or that bytes are missing; or a fault
pub data Maps : Type 0 where
  got : ℕ → ℕ → ℕ → Maps
  more : Maps
  fault : ℕ → BitmapCause → Maps

-- the secondary bitmap behind the primary one
abbrev pub secondary_by : BitmapCoding → ℕ → Option ℕ → Maps
secondary_by c primary None = fault (map_size c) BadHex
secondary_by c primary (Some secondary) =
    if nat_lt secondary top then got primary secondary (map_size c + map_size c)
    else fault (map_size c) ThirdBitmap

-- the primary bitmap, and the secondary one where its first bit says so
abbrev pub primary_by : BitmapCoding → List ℕ → Option ℕ → Maps
primary_by c b None = fault 0 BadHex
primary_by c b (Some primary) =
    if nat_lt primary top then got primary 0 (map_size c)
    else if nat_lt (length b) (map_size c + map_size c) then more
    else secondary_by c (primary - top) (word_in c (take (map_size c) (drop (map_size c) b)))

-- the bitmaps that the bytes begin with
abbrev pub maps_at : BitmapCoding → List ℕ → Maps
maps_at c b = if nat_lt (length b) (map_size c) then more
    else primary_by c b (word_in c (take (map_size c) b))

-- ---- what functions answer

-- reading gives two words, without the first bit of either: they have the numbers of the set
pub record GotMaps (set : ℕ → Bool) (used : ℕ) (o : Maps) : Type 0 where
  pub primary : ℕ
  pub secondary : ℕ
  pub read : o ≡ got primary secondary used
  pub not_1 : primary < 2 ^ 63
  pub not_65 : secondary < 2 ^ 63
  pub numbers : (n : ℕ) → set n ≡ in_words primary secondary n

-- the answer is what reading gives
abbrev pub ReadsMaps : Result BitmapStep BitmapFault → Maps → Type 0
ReadsMaps (Ok (steps.Got bits used)) o = GotMaps (contains bits) used o
ReadsMaps (Ok steps.More) o = o ≡ more
ReadsMaps (Err e) o = o ≡ fault e.at e.cause

-- where a set was read, it is the one that the first bytes spell
abbrev pub FoundMaps : BitmapCoding → List ℕ → Result BitmapStep BitmapFault → Type 0
FoundMaps c b (Ok (steps.Got bits used)) = (used ≤ length b)
    × ((two : Bool) × Bitmaps c two (contains bits) (take used b))
FoundMaps c b (Ok steps.More) = Unit {0}
FoundMaps c b (Err e) = Unit {0}

-- of a set that was read
abbrev pub IfRead : Result BitmapStep BitmapFault → ((ℕ → Bool) → Type 0) → Type 0
IfRead (Ok (steps.Got bits used)) P = P (contains bits)
IfRead (Ok steps.More) P = Unit {0}
IfRead (Err e) P = Unit {0}

-- the set was read from so many bytes
abbrev pub IsSetRead : (ℕ → Bool) → ℕ → Result BitmapStep BitmapFault → Type 0
IsSetRead set size (Ok (steps.Got bits used)) = (used ≡ size)
    × ((k : ℕ) → 2 ≤ k → k ≤ 128 → contains bits k ≡ set k)
IsSetRead set size (Ok steps.More) = ⊥
IsSetRead set size (Err e) = ⊥
