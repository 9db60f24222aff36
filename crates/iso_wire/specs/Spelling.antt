-- The bytes that spell a message under a table (ISO 8583:1987, structure of a message): its type, its bitmaps, and
-- the parts of its elements in ascending order.
use Rattle.std.specs.Prelude.{◌≡◌, ℕ, ◌/◌, ◌<◌, Bool, List, [], ◌∷◌, ◌++◌, Option, Some, None, ◌≤◌, take, length, slice_index}
use Rattle.std.specs.List.{flat_map}
use Rattle.iso_parts.specs.declared.spec.FieldSpec.{FieldSpec}
use Rattle.iso_parts.specs.Bitmap.{Bitmaps, PlainBitmaps}
use Rattle.iso_parts.specs.Digits.{four_digits_of}
use Rattle.iso_parts.specs.Part.{Part, plain_part}
use Rattle.iso_wire.specs.Contents.{Contents}
use Rattle.iso_wire.specs.Elements.{has, IsAscending}
use Rattle.iso_table.specs.Layout.{Layout, row_at}

-- the bytes are a part of the value as element n
abbrev pub PartAs : List (Option FieldSpec) → ℕ → List ℕ → List ℕ → Type 0
PartAs rows n v b = (s : FieldSpec) × (row_at rows n ≡ Some s) × Part s v b

-- the bytes are the parts of the elements, one after another
abbrev pub Parts : List (Option FieldSpec) → List (ℕ × List ℕ) → List ℕ → Type 0
Parts rows [] b = b ≡ []
Parts rows (e ∷ es) b = (part : List ℕ) × (rest : List ℕ) × PartAs rows e.0 e.1 part
    × Parts rows es rest × (b ≡ part ++ rest)

-- the bytes spell the message: its type, its bitmaps, and the parts of its elements
pub record Spelling (t : Layout) (m : Contents) (b : List ℕ) : Type 0 where
  pub mti : m.mti < 10000
  pub version : m.mti / 1000 ≡ t.version
  pub ascending : IsAscending 2 m.elements
  pub secondary : Bool
  pub maps : List ℕ
  pub parts : List ℕ
  pub bitmaps : Bitmaps t.bitmap secondary (has m.elements) maps
  pub elements : Parts t.rows m.elements parts
  pub bytes : b ≡ four_digits_of t.mti m.mti ++ (maps ++ parts)

-- ---- spellings at the front of bytes

-- each item is a byte
abbrev pub AreBytes : List ℕ → Type 0
AreBytes b = (i : ℕ) → slice_index b i < 256

-- the first bytes, so many of them, spell the message
abbrev pub BeginsWith : Layout → Contents → ℕ → List ℕ → Type 0
BeginsWith t m size b = (size ≤ length b) × Spelling t m (take size b)

-- the bytes begin with no spelling
abbrev pub BeginsWithNone : Layout → List ℕ → Type 0
BeginsWithNone t b = (m : Contents) (front rest : List ℕ) → b ≡ front ++ rest → Spelling t m front
    → ⊥

-- no spelling begins with another, and no bytes spell two messages
abbrev pub IsUnambiguous : Layout → Type 0
IsUnambiguous t =
    (m other : Contents) (a b x y : List ℕ) → AreBytes (a ++ x) → Spelling t m a
    → Spelling t other b → a ++ x ≡ b ++ y → (m ≡ other) × (a ≡ b)

-- ---- the spelling that is written

-- the part that is written for a value: filler 0, hexadecimal digits in upper case
abbrev pub plain_by : Option FieldSpec → List ℕ → List ℕ
plain_by None v = []
plain_by (Some s) v = plain_part s v

-- the part that is written for an element, under its row
abbrev pub plain_of : List (Option FieldSpec) → ℕ × List ℕ → List ℕ
plain_of rows e = plain_by (row_at rows e.0) e.1

-- the bytes are the message as it is written: a secondary bitmap only where it has an element above 64, and plain parts
pub record PlainSpelling (t : Layout) (m : Contents) (b : List ℕ) : Type 0 where
  pub spelling : Spelling t m b
  pub bitmaps : PlainBitmaps t.bitmap (has m.elements) spelling.maps
  pub parts : spelling.parts ≡ flat_map (plain_of t.rows) m.elements

-- the bytes of one message under two tables: any spelling under the first, the plain one under the second
abbrev pub Converts : Layout → Layout → List ℕ → List ℕ → Type 0
Converts f t all b = (m : Contents) × Spelling f m all × PlainSpelling t m b
