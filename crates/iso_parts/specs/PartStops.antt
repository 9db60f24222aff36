-- Where bytes stop being a part, and why (ISO 8583:1987, structure of an element: length and data). The bytes are some
-- good pieces, joined, and a rest. The good pieces call for the next one; in the rest it isn't whole, or it is whole and
-- bad. Nothing is read here: pieces are told by which bytes spell them, and only how many bytes a whole piece has is told
-- by the sizes that reading goes by too.
use Rattle.std.specs.Prelude.{◌≡◌, ◌≢◌, ℕ, ◌<◌, ◌≤◌, List, [], ◌++◌, length, take, Result, Ok, Err}
use Rattle.iso_parts.specs.declared.spec.FieldSpec.{FieldSpec}
use Rattle.iso_parts.specs.declared.fault.FieldFault.{FieldFault}
use Rattle.iso_parts.specs.declared.fault.FieldFault.TheVariants.{Memory}
use Rattle.iso_parts.specs.declared.field.Step.{Step}
use Rattle.iso_parts.specs.declared.field.Step.TheVariants as steps
use Rattle.iso_parts.specs.Pieces.{IsCount, IsBadCount, IsBadBody}
use Rattle.iso_parts.specs.Reading.{prefix_size, body_size}

-- a piece of a part: it is judged when it is whole
pub data PartPiece : Type 0 where
  -- the length
  count : PartPiece
  -- the body, of so many characters
  body : ℕ → PartPiece

-- how many bytes the whole piece has
abbrev pub piece_size : FieldSpec → PartPiece → ℕ
piece_size s count = prefix_size s.length
piece_size s (body c) = body_size s.coding c

-- the bytes are the good pieces before this one: none before the length; before the body a length that tells its
-- characters, at most the maximum
abbrev pub ArePiecesBefore : FieldSpec → PartPiece → List ℕ → Type 0
ArePiecesBefore s count b = b ≡ []
ArePiecesBefore s (body c) b = IsCount s c b × (c ≤ s.max)

-- the fault is the first that holds of the whole piece
abbrev pub IsBadPiece : FieldSpec → PartPiece → List ℕ → FieldFault → Type 0
IsBadPiece s count p e = IsBadCount s p e
IsBadPiece s (body c) p e = IsBadBody s c p e

-- the bytes end inside a part: they are good pieces, and less than the whole next one
pub record EndsInPart (s : FieldSpec) (b : List ℕ) : Type 0 where
  pub pieces : List ℕ
  pub rest : List ℕ
  pub bytes : b ≡ pieces ++ rest
  pub piece : PartPiece
  pub before : ArePiecesBefore s piece pieces
  pub short : length rest < piece_size s piece

-- the bytes begin with a bad part: behind good pieces the next one is whole, and has this fault
pub record IsBadPart (s : FieldSpec) (b : List ℕ) (e : FieldFault) : Type 0 where
  pub pieces : List ℕ
  pub rest : List ℕ
  pub bytes : b ≡ pieces ++ rest
  pub piece : PartPiece
  pub before : ArePiecesBefore s piece pieces
  pub whole : piece_size s piece ≤ length rest
  pub bad : IsBadPiece s piece (take (piece_size s piece) rest) e

-- the answer that bytes are missing, or a fault but for want of memory, is so
abbrev pub StopsPart : FieldSpec → List ℕ → Result Step FieldFault → Type 0
StopsPart s b (Ok (steps.Got value used)) = Unit {0}
StopsPart s b (Ok steps.More) = EndsInPart s b
StopsPart s b (Err e) = e ≢ Memory → IsBadPart s b e
