-- A message that comes in pieces: what was taken of it, and what is answered to each further piece.
use Rattle.std.specs.Prelude.{◌≡◌, ◌≢◌, ℕ, ◌+◌, List, [], ◌++◌, Option, Some, Result, Ok, Err}
use Rattle.iso_wire.specs.declared.fault.UnpackFault.{UnpackFault}
use Rattle.iso_wire.specs.declared.fault.UnpackCause.TheVariants.{Short, Memory}
use Rattle.iso_wire.specs.declared.unpacker.Fed.{Fed}
use Rattle.iso_wire.specs.declared.unpacker.Fed.TheVariants as fed
use Rattle.iso_wire.specs.Contents.{Contents}
use Rattle.iso_wire.specs.Reading.{IsFaultOf, whole}
use Rattle.iso_wire.specs.ReadingLaws.{IsShort}
use Rattle.iso_wire.specs.Spelling.{AreBytes, BeginsWith, BeginsWithNone}
use Rattle.iso_wire.specs.Stops.{Stops}
use Rattle.iso_table.specs.Layout.{Layout}

-- the table, the bytes taken of the current message, and the fault that stopped it
pub record Feeding : Type 0 where
  pub table : Layout
  pub taken : List ℕ
  pub stopped : Option UnpackFault

-- ---- what is answered to a piece, behind the bytes taken before it

-- the answer is what reading all the bytes gives, the message's end seen from the piece; unless memory ran out
abbrev pub Feeds : ℕ → Result Fed UnpackFault → Result (Contents × ℕ) UnpackFault → Type 0
Feeds before (Ok (fed.Done message used)) read = read ≡ whole message (before + used)
Feeds before (Ok fed.More) read = IsShort read
Feeds before (Err e) read = IsFaultOf e read × (e.cause ≢ Short)

-- how it stands afterwards
abbrev pub IsAfterFeed : Feeding → Feeding → List ℕ → Result Fed UnpackFault → Type 0
IsAfterFeed old new piece (Ok (fed.Done message used)) = new ≡ record old { taken = [] }
IsAfterFeed old new piece (Ok fed.More) = new ≡ record old { taken = old.taken ++ piece }
IsAfterFeed old new piece (Err e) = (e.cause ≡ Memory → new ≡ old)
    × (e.cause ≢ Memory → new ≡ record old { taken = []; stopped = Some e })

-- while it is stopped the fault is answered again, and nothing changes
abbrev pub StaysStopped : Feeding → Feeding → Result Fed UnpackFault → Type 0
StaysStopped old new result = (e : UnpackFault) → old.stopped ≡ Some e
    → (result ≡ Err e) × (new ≡ old)

-- ---- what it means for spellings

-- what is done is a spelling at the front of all the bytes, and behind the bytes taken before it uses only bytes of the piece
abbrev pub FoundFed : Layout → ℕ → List ℕ → Result Fed UnpackFault → Type 0
FoundFed t before b (Ok (fed.Done message used)) = BeginsWith t message (before + used) b
FoundFed t before b (Ok fed.More) = BeginsWithNone t b
FoundFed t before b (Err e) = e.cause ≢ Memory → (more : List ℕ) → AreBytes more
    → BeginsWithNone t (b ++ more)

-- a fault tells where all the bytes stop, and why; more is wanted where they end inside a piece
abbrev pub StopsFed : Layout → List ℕ → Result Fed UnpackFault → Type 0
StopsFed t b (Ok (fed.Done message used)) = Unit {0}
StopsFed t b (Ok fed.More) = (at : ℕ) × (element : ℕ) × Stops t b at element Short
StopsFed t b (Err e) = e.cause ≢ Memory → Stops t b e.at e.element e.cause
