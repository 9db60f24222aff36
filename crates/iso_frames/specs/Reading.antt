-- What the frames of a connection tell.
use Rattle.std.specs.Prelude.{◌≡◌, ◌≤◌, ℕ, ◌==◌, ◌++◌, Bool, true, false, List, length, map, Option, Some, None, Result, Ok, Err, if◌then◌else◌}
use Rattle.iso_table.specs.Layout.{Layout}
use Rattle.iso_wire.specs.declared.fault.UnpackFault.{UnpackFault}
use Rattle.iso_wire.specs.declared.header.Header.{Header}
use Rattle.iso_wire.specs.Contents.{Contents}
use Rattle.iso_wire.specs.Framing.{frame_of, frames_of, largest, AllFit, NeedsMore, is_bad_header}
use Rattle.iso_wire.specs.Reading.{message_at}
use Rattle.iso_order.specs.declared.told.Told.{Told}
use Rattle.iso_order.specs.Told.{told_of}
use Rattle.iso_frames.specs.declared.reading.Read.{Read}
use Rattle.iso_frames.specs.declared.reading.Read.TheVariants.{Answer, Unreadable}
use Rattle.iso_frames.specs.declared.reading.Front.{Front}
use Rattle.iso_frames.specs.declared.reading.Front.TheVariants.{More, Bad, Frame}
use Rattle.iso_frames.specs.Balance.{balance_told}

-- ---- what a body tells

-- a message tells an answer, and beside it the balance that an inquiry asks for; or it tells none
abbrev pub read_told : Contents → Option Told → Read
read_told m None = Unreadable
read_told m (Some told) = Answer told (balance_told m told)

-- the body is a message of the table to its last byte, and is read as one
abbrev pub read_as : ℕ → Result (Contents × ℕ) UnpackFault → Read
read_as size (Err e) = Unreadable
read_as size (Ok (m, used)) = if used == size then read_told m (told_of m) else Unreadable

-- what the body of a frame tells
abbrev pub read_of : Layout → List ℕ → Read
read_of t body = read_as (length body) (message_at t body)

-- ---- frames

-- what stands at the front of the bytes that came, and which bytes are left: a frame is taken, and read; where its bytes are
-- missing, or its header isn't of digits, all are left
abbrev pub TakesFront : Layout → Header → List ℕ → List ℕ → Front → Type 0
TakesFront t h old new More = NeedsMore h old × (new ≡ old)
TakesFront t h old new Bad = (is_bad_header h old ≡ true) × (new ≡ old)
TakesFront t h old new (Frame read) =
    (body : List ℕ) × (old ≡ frame_of h body ++ new) × (length body ≤ largest h)
    × (read ≡ read_of t body)

-- how the bytes go on behind the frames that were taken
abbrev pub GoesOn : Header → List ℕ → Bool → Type 0
GoesOn h rest true = is_bad_header h rest ≡ true
GoesOn h rest false = NeedsMore h rest

-- the frames at the front of the bytes are taken, all of them and in their order, and each is read once, as the table says
pub record TakesFrames (t : Layout) (h : Header) (old new : List ℕ)
    (read : List Read) : Type 0 where
  pub bodies : List (List ℕ)
  pub joined : old ≡ frames_of h bodies ++ new
  pub fit : AllFit h bodies
  pub each : read ≡ map (read_of t) bodies
