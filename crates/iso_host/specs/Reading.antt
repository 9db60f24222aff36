-- What reading a frame takes from a reader, through a window of the bytes that were read and not yet taken.
-- Inner: bodies and proofs cite it, and no public clause does.
use Rattle.std.specs.Prelude.{◌≡◌, ◌≢◌, ℕ, ◌+◌, ◌*◌, ◌<◌, ◌≤◌, List, [], length, true, Option, Result, Ok, Err}
use Rattle.std.specs.Io.KnownBytes.{Consumes, IsAtEnd, prepend_known}
use Rattle.iso_wire.specs.declared.header.Header.{Header}
use Rattle.iso_wire.specs.Framing.{NeedsMore, is_bad_header}
use Rattle.iso_host.specs.Counts.{Stream}
use Rattle.iso_host.specs.Turns.{Spends}
use Rattle.iso_host.specs.declared.fault.ServeFault.{ServeFault}
use Rattle.iso_host.specs.declared.fault.ServeFault.TheVariants.{Read, Write, BadHeader, CutFrame, Memory, TooManyTurns}

-- ---- a reader, and the bytes, by what is still to come: the window's bytes, and then the reader's

-- a reader: the bytes of its window, the stream behind them, and the turns that are left
pub record Reading : Type 0 where
  pub window : List ℕ
  pub reader : Stream
  pub turns : ℕ

-- this window, this stream and so many turns
abbrev pub reading : List ℕ → Stream → ℕ → Reading
reading window reader turns = record { window = window; reader = reader; turns = turns }

-- the bytes that are still to come, where they are known
abbrev pub to_come : Reading → Option (List ℕ)
to_come r = prepend_known r.window r.reader.bytes

-- why there is no further byte: a failing reader, no turn, or the end of the input
abbrev pub NoByte : Option (List ℕ) → ServeFault → Type 0
NoByte left Read = Unit {0}
NoByte left TooManyTurns = Unit {0}
NoByte left CutFrame = IsAtEnd left
NoByte left Write = ⊥
NoByte left BadHeader = ⊥
NoByte left Memory = ⊥

-- an empty window gets at least one byte, or stays empty
abbrev pub Refills : {T : Type 0} → List ℕ → Option (List ℕ) → Result T ServeFault → Type 0
Refills window left (Ok x) = 0 < length window
Refills window left (Err e) = (window ≡ []) × NoByte left e

-- what is taken where a frame doesn't come to its end
abbrev pub EndsInside : Header → Reading → Reading → ServeFault → Type 0
EndsInside h before after Read = (part : List ℕ) × Consumes (to_come before) (to_come after) part
    × (after.window ≡ []) × NeedsMore h part
EndsInside h before after CutFrame =
    (part : List ℕ) × Consumes (to_come before) (to_come after) part × (after.window ≡ [])
    × NeedsMore h part × (part ≢ []) × IsAtEnd after.reader.bytes
EndsInside h before after BadHeader =
    (part : List ℕ) × Consumes (to_come before) (to_come after) part
    × (is_bad_header h part ≡ true)
EndsInside h before after TooManyTurns =
    (part : List ℕ) × Consumes (to_come before) (to_come after) part
EndsInside h before after Memory = (part : List ℕ) × Consumes (to_come before) (to_come after) part
EndsInside h before after Write = ⊥

-- ---- the turns

-- each read took a turn and moved a byte, and none failed
abbrev pub SpendsTurns : Reading → Reading → Type 0
SpendsTurns before after =
    Spends before.reader.counts after.reader.counts before.turns after.turns

-- each read took a turn and gave at least one byte, at most 4,096, and so many bytes were taken
pub record TakesReads (before after : Reading) (taken : ℕ) : Type 0 where
  pub spends : SpendsTurns before after
  pub falls : 4097 * after.turns + length after.window + taken
      ≤ 4097 * before.turns + length before.window

-- `Read` comes only where the reader failed, and `TooManyTurns` only where no turn is left
abbrev pub EndsReads : Reading → Reading → ServeFault → Type 0
EndsReads before after Read = before.reader.counts.failures < after.reader.counts.failures
EndsReads before after TooManyTurns = SpendsTurns before after × (after.turns ≡ 0)
EndsReads before after CutFrame = after.reader.counts.failures ≡ before.reader.counts.failures
EndsReads before after BadHeader = after.reader.counts.failures ≡ before.reader.counts.failures
EndsReads before after Memory = after.reader.counts.failures ≡ before.reader.counts.failures
EndsReads before after Write = ⊥

-- what reading spends, where it gave something and where it failed
abbrev pub SpendsOnReads : {T : Type 0} → Reading → Reading → ℕ → Result T ServeFault → Type 0
SpendsOnReads before after taken (Ok x) = TakesReads before after taken
SpendsOnReads before after taken (Err e) = EndsReads before after e
