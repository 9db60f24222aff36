-- What writing an answer leaves and spends.
-- Inner: bodies and proofs cite it, and no public clause does.
use Rattle.std.specs.Prelude.{◌≡◌, ◌⊎◌, ℕ, ◌+◌, ◌<◌, ◌≤◌, List, [], length, take, Result, Ok, Err}
use Rattle.std.specs.Io.KnownBytes.{Appends}
use Rattle.iso_host.specs.Counts.{Counts, Stream}
use Rattle.iso_host.specs.Turns.{Spends}
use Rattle.iso_host.specs.declared.fault.ServeFault.{ServeFault}
use Rattle.iso_host.specs.declared.fault.ServeFault.TheVariants.{Read, Write, BadHeader, CutFrame, Memory, TooManyTurns}

-- `Write` comes only where the writer failed, `TooManyTurns` only where no turn is left, and `Memory` before any call
abbrev pub SpendsOnWrite : {T : Type 0} → Counts → Counts → ℕ → ℕ → Result T ServeFault → Type 0
SpendsOnWrite old new before left (Ok x) = Spends old new before left
SpendsOnWrite old new before left (Err Write) = old.failures < new.failures
SpendsOnWrite old new before left (Err TooManyTurns) = Spends old new before left × (left ≡ 0)
SpendsOnWrite old new before left (Err Read) = ⊥
SpendsOnWrite old new before left (Err BadHeader) = ⊥
SpendsOnWrite old new before left (Err CutFrame) = ⊥
SpendsOnWrite old new before left (Err Memory) = new ≡ old

-- some bytes at the front of these were written, and wait for a flush
pub record WritesPart (before after : Stream) (bytes : List ℕ) : Type 0 where
  pub count : ℕ
  pub within : count ≤ length bytes
  pub appends : Appends before.bytes after.bytes (take count bytes)
  pub waits : after.counts.unflushed ≡ before.counts.unflushed + count

-- at Ok the bytes were written, else some at their front
abbrev pub WritesBytes : {T : Type 0} → Stream → Stream → List ℕ → Result T ServeFault → Type 0
WritesBytes before after bytes (Ok x) = Appends before.bytes after.bytes bytes
WritesBytes before after bytes (Err e) = WritesPart before after bytes

-- these bytes were flushed, or there are none, and the writer wasn't called
abbrev pub FlushesAll : Counts → Counts → List ℕ → Type 0
FlushesAll old new bytes = (new.unflushed ≡ 0) ⊎ ((new ≡ old) × (bytes ≡ []))
