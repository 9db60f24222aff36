-- Where bytes stop being a message, and why (ISO 8583:1987, structure of a message: message type identifier, bitmaps,
-- data elements). The bytes are some good pieces, joined, and a rest. The good pieces call for the next one; in the rest
-- it isn't whole, or it is whole and bad. Nothing is read here: pieces are told by the grammar that says which bytes
-- spell a message, and only how many bytes a whole piece has is told by the tables that reading goes by too.
use Rattle.std.specs.Prelude.{◌≡◌, ◌≢◌, ℕ, ◌/◌, ◌<◌, ◌≤◌, ◌&&◌, nat_lt, Bool, true, false, is_some, List, [], ◌++◌, length, take, Some, None}
use Rattle.iso_parts.specs.Digits.{four_digits_of}
use Rattle.iso_parts.specs.declared.spec.FieldSpec.{FieldSpec}
use Rattle.iso_parts.specs.Bitmap.{map_size, BitsIn, Bitmaps, primary_bits, secondary_bits}
use Rattle.iso_parts.specs.Pieces.{IsCount, IsBadCount, IsBadBody}
use Rattle.iso_parts.specs.Reading.{prefix_size, body_size}
use Rattle.iso_table.specs.Layout.{Layout, row_at}
use Rattle.iso_wire.specs.declared.fault.UnpackCause.{UnpackCause}
use Rattle.iso_wire.specs.declared.fault.UnpackCause.TheVariants.{Short, BadMti, WrongVersion, BadHex, ThirdBitmap, UnknownElement, Field}
use Rattle.iso_wire.specs.Elements.{has, IsAscending}
use Rattle.iso_parts.specs.Mti.{mti_size}
use Rattle.iso_wire.specs.Spelling.{Parts}

-- ---- the pieces of a message

-- a piece of a message: it is judged when it is whole
pub data Piece : Type 0 where
  -- the message type
  type : Piece
  -- the primary bitmap
  primary : Piece
  -- the secondary bitmap
  secondary : Piece
  -- the length of an element, under its row
  count : ℕ → FieldSpec → Piece
  -- the body of an element, under its row, of so many characters
  body : ℕ → FieldSpec → ℕ → Piece

-- whose piece it is: 0 stands for the type and the primary bitmap, 1 for the secondary bitmap
abbrev pub owner : Piece → ℕ
owner type = 0
owner primary = 0
owner secondary = 1
owner (count n s) = n
owner (body n s c) = n

-- how many bytes the whole piece has
abbrev pub size_of : Layout → Piece → ℕ
size_of t type = mti_size t.mti
size_of t primary = map_size t.bitmap
size_of t secondary = map_size t.bitmap
size_of t (count n s) = prefix_size s.length
size_of t (body n s c) = body_size s.coding c

-- ---- good pieces

-- the bytes are the four digits of a message type (ISO 8583:1987, message type identifier)
abbrev pub IsType : Layout → ℕ → List ℕ → Type 0
IsType t n p = (n < 10000) × (p ≡ four_digits_of t.mti n)

-- the bytes are a message type of the table's version (its first digit)
abbrev pub IsOwnType : Layout → List ℕ → Type 0
IsOwnType t p = (n : ℕ) × IsType t n p × (n / 1000 ≡ t.version)

-- each number of the set, from low on and before end, has a row
abbrev pub HaveRows : Layout → (ℕ → Bool) → ℕ → ℕ → Type 0
HaveRows t set low end = (k : ℕ) → low ≤ k → k < end → set k ≡ true
    → is_some (row_at t.rows k) ≡ true

-- the bytes are a good primary bitmap that says that a secondary one follows (ISO 8583:1987, bitmaps: bit 1)
abbrev pub IsPrimaryOfTwo : Layout → List ℕ → Type 0
IsPrimaryOfTwo t p = (set : ℕ → Bool) × BitsIn t.bitmap (primary_bits true set) p
    × HaveRows t set 2 65

-- the bytes are the good bitmaps of the set, two of them or one (ISO 8583:1987, primary and secondary bitmap)
pub record AreGoodMaps (t : Layout) (set : ℕ → Bool) (p : List ℕ) : Type 0 where
  pub two : Bool
  pub bitmaps : Bitmaps t.bitmap two set p
  pub no_third : set 65 ≡ false
  pub rows : HaveRows t set 2 129

-- the numbers of the set below n
abbrev pub below : ℕ → (ℕ → Bool) → ℕ → Bool
below n set k = set k && nat_lt k n

-- the bytes are all the pieces before element n, which has this row: a message type, bitmaps that tell of n, and the
-- parts of the elements below n (ISO 8583:1987, data elements: in ascending order of their bits)
pub record IsBefore (t : Layout) (n : ℕ) (s : FieldSpec) (b : List ℕ) : Type 0 where
  pub set : ℕ → Bool
  pub earlier : List (ℕ × List ℕ)
  pub mti : List ℕ
  pub maps : List ℕ
  pub parts : List ℕ
  pub bytes : b ≡ mti ++ (maps ++ parts)
  pub own_type : IsOwnType t mti
  pub good_maps : AreGoodMaps t set maps
  pub low : 2 ≤ n
  pub high : n ≤ 128
  pub there : set n ≡ true
  pub row : row_at t.rows n ≡ Some s
  pub ascending : IsAscending 2 earlier
  pub numbers : (k : ℕ) → 2 ≤ k → k ≤ 128 → has earlier k ≡ below n set k
  pub elements : Parts t.rows earlier parts

-- the bytes are good pieces, and this piece comes next
abbrev pub CallFor : Layout → List ℕ → Piece → Type 0
CallFor t b type = b ≡ []
CallFor t b primary = IsOwnType t b
CallFor t b secondary = (mti : List ℕ) × (primary : List ℕ) × IsOwnType t mti
    × IsPrimaryOfTwo t primary × (b ≡ mti ++ primary)
CallFor t b (count n s) = IsBefore t n s b
CallFor t b (body n s c) = (before : List ℕ) × (p : List ℕ) × IsBefore t n s before × IsCount s c p
    × (c ≤ s.max) × (b ≡ before ++ p)

-- ---- the first thing that is wrong with a whole piece

-- n is the lowest number of the set, from low on and before end, that has no row
pub record IsUnknown (t : Layout) (set : ℕ → Bool) (low end n : ℕ) : Type 0 where
  pub from : low ≤ n
  pub to : n < end
  pub there : set n ≡ true
  pub row : row_at t.rows n ≡ None
  pub others : HaveRows t set low n

-- a message type isn't of four digits; or it is, and of another version
abbrev pub IsBadType : Layout → List ℕ → UnpackCause → Type 0
IsBadType t p BadMti = (n : ℕ) → IsType t n p → ⊥
IsBadType t p WrongVersion = (n : ℕ) × IsType t n p × (n / 1000 ≢ t.version)
IsBadType t p other = ⊥

-- a primary bitmap isn't of hexadecimal digits, or tells of an element without a row
abbrev pub IsBadPrimary : Layout → List ℕ → UnpackCause → Type 0
IsBadPrimary t p BadHex = (set : ℕ → Bool) → BitsIn t.bitmap set p → ⊥
IsBadPrimary t p (UnknownElement n) = (set : ℕ → Bool) × BitsIn t.bitmap set p
    × IsUnknown t set 2 65 n
IsBadPrimary t p other = ⊥

-- a secondary bitmap isn't of hexadecimal digits, tells of a third bitmap, or of an element without a row
abbrev pub IsBadSecondary : Layout → List ℕ → UnpackCause → Type 0
IsBadSecondary t p BadHex = (set : ℕ → Bool) → BitsIn t.bitmap (secondary_bits set) p → ⊥
IsBadSecondary t p ThirdBitmap = (set : ℕ → Bool) × BitsIn t.bitmap (secondary_bits set) p
    × (set 65 ≡ true)
IsBadSecondary t p (UnknownElement n) = (set : ℕ → Bool) × BitsIn t.bitmap (secondary_bits set) p
    × (set 65 ≡ false) × IsUnknown t set 66 129 n
IsBadSecondary t p other = ⊥

-- the cause is the first that holds of the whole piece
abbrev pub IsBad : Layout → Piece → List ℕ → UnpackCause → Type 0
IsBad t type p cause = IsBadType t p cause
IsBad t primary p cause = IsBadPrimary t p cause
IsBad t secondary p cause = IsBadSecondary t p cause
IsBad t (count n s) p (Field e) = IsBadCount s p e
IsBad t (body n s c) p (Field e) = IsBadBody s c p e
IsBad t piece p other = ⊥

-- ---- where the bytes stop

-- the rest has less than the whole piece, or has it, and then the cause is the first that holds of it
abbrev pub Halts : Layout → Piece → List ℕ → UnpackCause → Type 0
Halts t piece rest Short = length rest < size_of t piece
Halts t piece rest cause = (size_of t piece ≤ length rest)
    × IsBad t piece (take (size_of t piece) rest) cause

-- the bytes are good pieces and a rest; the piece that comes next, at this offset and of this element, stops them for
-- this cause
pub record Stops (t : Layout) (b : List ℕ) (at element : ℕ) (cause : UnpackCause) : Type 0 where
  pub pieces : List ℕ
  pub rest : List ℕ
  pub bytes : b ≡ pieces ++ rest
  pub place : at ≡ length pieces
  pub piece : Piece
  pub calls : CallFor t pieces piece
  pub whose : element ≡ owner piece
  pub halts : Halts t piece rest cause
