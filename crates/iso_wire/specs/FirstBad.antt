-- The first byte of a bad piece that may not stand there: each byte is judged alone, by the digits or the class that
-- the piece wants.
use Rattle.std.specs.Prelude.{◌≡◌, ℕ, ◌+◌, ◌-◌, ◌/◌, ◌%◌, ◌<◌, ◌==◌, ◌&&◌, ◌||◌, ◌⊎◌, nat_le, Bool, true, false, if◌then◌else◌, List, length, take, drop, slice_index, Option, Some, None}
use Rattle.hex.specs.Hex.{is_hex_digit}
use Rattle.iso_parts.specs.Class.{is_digit, is_member, is_first}
use Rattle.iso_parts.specs.declared.digits.Digits.{Digits}
use Rattle.iso_parts.specs.declared.digits.Digits.TheVariants as digits
use Rattle.iso_parts.specs.declared.encoding.Coding.TheVariants as codings
use Rattle.iso_parts.specs.declared.encoding.Coding.{Coding}
use Rattle.iso_parts.specs.declared.fault.FieldFault.TheVariants as fields
use Rattle.iso_parts.specs.declared.padding.Pad.{Pad}
use Rattle.iso_parts.specs.declared.padding.Pad.TheVariants as pads
use Rattle.iso_parts.specs.declared.prefix.Length.{Length}
use Rattle.iso_parts.specs.declared.prefix.Length.TheVariants as lengths
use Rattle.iso_parts.specs.declared.spec.FieldSpec.{FieldSpec}
use Rattle.iso_table.specs.Layout.{Layout, row_at}
use Rattle.iso_wire.specs.declared.fault.UnpackCause.{UnpackCause}
use Rattle.iso_wire.specs.declared.fault.UnpackCause.TheVariants.{Short, BadMti, BadHex, Field}
use Rattle.iso_wire.specs.declared.pieces.Piece as told
use Rattle.iso_wire.specs.declared.pieces.PieceKind.{PieceKind}
use Rattle.iso_wire.specs.declared.pieces.PieceKind.TheVariants as kinds

-- the byte is a digit, or two of them
abbrev pub is_of_digits : Digits → ℕ → Bool
is_of_digits digits.Ascii b = is_digit b
is_of_digits digits.Bcd b = nat_le (b / 16) 9 && nat_le (b % 16) 9

-- the byte is of the digits of a length
abbrev pub is_of_length : Length → ℕ → Bool
is_of_length lengths.Fixed b = true
is_of_length (lengths.LL d) b = is_of_digits d b
is_of_length (lengths.LLL d) b = is_of_digits d b
is_of_length (lengths.LLLL d) b = is_of_digits d b

-- the byte fills values up
abbrev pub fills : Pad → ℕ → Bool
fills pads.None b = false
fills (pads.Left pad) b = b == pad
fills (pads.Right pad) b = b == pad

-- there is a byte that fills values up
abbrev pub is_padded : Pad → Bool
is_padded pads.None = false
is_padded (pads.Left pad) = true
is_padded (pads.Right pad) = true

-- the byte at place i of a body is of the class, or fills the value up; behind what fills it up a value may begin
abbrev pub is_of_class : FieldSpec → ℕ → ℕ → Bool
is_of_class s i b = (if i == 0 then is_first s.class b else is_member s.class b)
    || (is_padded s.pad && is_first s.class b) || fills s.pad b

-- the half of a byte is a digit, or fills the value up
abbrev pub is_half : FieldSpec → ℕ → Bool
is_half s half = nat_le half 9 || fills s.pad (48 + half)

-- the byte at place i of a body is two digits, or a filler and one
abbrev pub is_packed : FieldSpec → ℕ → ℕ → Bool
is_packed s i b = is_half s (b % 16) && (is_half s (b / 16) || (i == 0 && b / 16 == 15))

-- the byte at place i of a body may stand there under that coding
abbrev pub is_coded : Coding → FieldSpec → ℕ → ℕ → Bool
is_coded codings.Ascii s i b = is_of_class s i b
is_coded codings.Raw s i b = is_of_class s i b
is_coded codings.Bcd s i b = is_packed s i b
is_coded codings.HexText s i b = true

-- what each byte of a piece has to be
pub data ByteRule : Type 0 where
  -- a digit, or two of them
  type_digit : Digits → ByteRule
  -- a hexadecimal digit
  hex_digit : ByteRule
  -- of the digits of a length
  length_digit : Length → ByteRule
  -- one that may stand at its place of a body under this row
  body_byte : FieldSpec → ByteRule
  -- any byte
  any_byte : ByteRule

-- the rule of a piece of the kind, under the row of its element; any byte, where the fault speaks of no single byte
abbrev pub rule_of : Layout → Option FieldSpec → PieceKind → UnpackCause → ByteRule
rule_of t row kinds.Type BadMti = type_digit t.mti
rule_of t row kinds.Primary BadHex = hex_digit
rule_of t row kinds.Secondary BadHex = hex_digit
rule_of t (Some s) kinds.Length (Field fields.BadLengthDigits) = length_digit s.length
rule_of t (Some s) kinds.Body (Field fields.BadHex) = hex_digit
rule_of t (Some s) kinds.Body (Field fields.NotInClass) = body_byte s
rule_of t row kind cause = any_byte

-- a byte may stand at place i of a piece whose bytes have this rule
abbrev pub is_allowed : ByteRule → ℕ → ℕ → Bool
is_allowed (type_digit d) i b = is_of_digits d b
is_allowed hex_digit i b = is_hex_digit b
is_allowed (length_digit l) i b = is_of_length l b
is_allowed (body_byte s) i b = is_coded s.coding s i b
is_allowed any_byte i b = true

-- the first bytes, so many of them, may stand there, and the one behind them may not; or each may, and it is none of
-- them
pub record IsFirstNot (test : ℕ → ℕ → Bool) (b : List ℕ) (k : ℕ) : Type 0 where
  pub before : (i : ℕ) → i < k → test i (slice_index b i) ≡ true
  pub there : ((k < length b) × (test k (slice_index b k) ≡ false))
      ⊎ ((k ≡ 0) × ((i : ℕ) → i < length b → test i (slice_index b i) ≡ true))

-- the offset is that of the first byte of the piece that may not stand there, or where the piece begins; where the bytes
-- end inside the piece, it is their end
abbrev pub IsFirstBad : Layout → told.Piece → List ℕ → Option UnpackCause → ℕ → Type 0
IsFirstBad t p b None at = at ≡ p.start
IsFirstBad t p b (Some Short) at = at ≡ p.end
IsFirstBad t p b (Some cause) at =
    (k : ℕ) × (at ≡ p.start + k)
    × IsFirstNot (is_allowed (rule_of t (row_at t.rows p.element) p.kind cause))
    (take (p.end - p.start) (drop p.start b)) k
