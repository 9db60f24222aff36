-- Walking over the pieces of a message, one after another, up to the one that stops it (ISO 8583:1987, structure of a
-- message: message type identifier, bitmaps, data elements).
use Rattle.std.specs.Prelude.{◌≡◌, ℕ, ◌+◌, ◌-◌, ◌*◌, ◌≤◌, List, length, take, drop, min, Option, Some, None}
use Rattle.iso_table.specs.Layout.{Layout}
use Rattle.iso_wire.specs.Contents.{Contents}
use Rattle.iso_wire.specs.Spelling.{BeginsWith}
use Rattle.iso_wire.specs.Stops.{Piece, type, primary, secondary, count, body, owner, size_of, CallFor, Halts, Stops}
use Rattle.iso_wire.specs.declared.fault.UnpackCause.{UnpackCause}
use Rattle.iso_wire.specs.declared.fault.UnpackFault.{UnpackFault}
use Rattle.iso_wire.specs.declared.pieces.PieceKind.{PieceKind}
use Rattle.iso_wire.specs.declared.pieces.PieceKind.TheVariants as kinds
use Rattle.iso_wire.specs.declared.pieces.Piece as told

-- what lies before a walk: the piece that comes next; nothing, since the message is whole; nothing, since a piece
-- stopped it
pub data Ahead : Type 0 where
  next : Piece → Ahead
  whole : Ahead
  stopped : UnpackFault → Ahead

-- a walk: the table, the bytes, the offset behind the pieces that were told, and what lies before it
pub record Walk : Type 0 where
  pub table : Layout
  pub bytes : List ℕ
  pub at : ℕ
  pub ahead : Ahead

-- the bytes before the offset are good pieces, and they call for the next one; or they are a whole message; or the
-- bytes stop
abbrev pub StandsBefore : Layout → List ℕ → ℕ → Ahead → Type 0
StandsBefore t b at (next piece) = CallFor t (take at b) piece
StandsBefore t b at whole = (m : Contents) × BeginsWith t m at b
StandsBefore t b at (stopped e) = Stops t b e.at e.element e.cause

-- a walk stands inside its bytes, and what lies before it is so
abbrev pub Stands : Walk → Type 0
Stands w = (w.at ≤ length w.bytes) × StandsBefore w.table w.bytes w.at w.ahead

-- no piece comes next
abbrev pub IsOver : Ahead → Type 0
IsOver (next piece) = ⊥
IsOver whole = Unit {0}
IsOver (stopped e) = Unit {0}

-- what a piece is, as it is told
abbrev pub kind_of : Piece → PieceKind
kind_of type = kinds.Type
kind_of primary = kinds.Primary
kind_of secondary = kinds.Secondary
kind_of (count n s) = kinds.Length
kind_of (body n s c) = kinds.Body

-- the piece is told as what it is, whose it is, and where it lies: up to its end, or up to the end of the bytes
pub record Tells (w : Walk) (piece : Piece) (p : told.Piece) : Type 0 where
  pub kind : p.kind ≡ kind_of piece
  pub element : p.element ≡ owner piece
  pub start : p.start ≡ w.at
  pub end : p.end ≡ min (w.at + size_of w.table piece) (length w.bytes)

-- a good piece is whole, and the walk goes on behind it; a bad one stops the bytes for this cause, and the walk
abbrev pub Goes : Walk → Piece → Option UnpackCause → Walk → Type 0
Goes old piece None new =
    (new ≡ record old { at = old.at + size_of old.table piece; ahead = new.ahead }) × Stands new
Goes old piece (Some cause) new =
    Halts old.table piece (drop old.at old.bytes) cause
    × Stops old.table old.bytes old.at (owner piece) cause
    × (new
    ≡ record old { ahead = stopped (record { at = old.at; element = owner piece; cause = cause }) })

-- the piece that comes next is told, and the good pieces before it call for it
pub record Steps (old : Walk) (p : told.Piece) (new : Walk) : Type 0 where
  pub piece : Piece
  pub ahead : old.ahead ≡ next piece
  pub calls : CallFor old.table (take old.at old.bytes) piece
  pub tells : Tells old piece p
  pub goes : Goes old piece p.fault new

-- a call tells the next piece, or nothing where none comes
abbrev pub Walks : Walk → Option told.Piece → Walk → Type 0
Walks old None new = (new ≡ old) × IsOver old.ahead × Stands old
Walks old (Some p) new = Steps old p new

-- where a piece stands among those that a message can have
abbrev pub rank : Piece → ℕ
rank type = 0
rank primary = 1
rank secondary = 2
rank (count n s) = 2 * n
rank (body n s c) = 2 * n + 1

-- at most so many pieces come
abbrev pub left_of : Ahead → ℕ
left_of (next piece) = 600 - rank piece
left_of whole = 0
left_of (stopped e) = 0
