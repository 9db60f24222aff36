-- The bytes that an unpacker takes: what a piece leaves of them, and what is built of them.
-- Inner: bodies and proofs cite it, and no public clause does.
use Rattle.std.specs.Prelude.{◌≡◌, ◌≢◌, ◌⊎◌, ℕ, ◌+◌, ◌-◌, ◌≤◌, ◌<◌, ◌^◌, List, [], ◌++◌, length, take, Option, Some, None, Result, Ok, Err}
use Rattle.iso_wire.specs.declared.fault.UnpackFault.{UnpackFault}
use Rattle.iso_wire.specs.declared.fault.UnpackCause.TheVariants.{Short, Memory}
use Rattle.iso_wire.specs.declared.unpacker.Fed.{Fed}
use Rattle.iso_wire.specs.declared.unpacker.Fed.TheVariants as fed
use Rattle.iso_wire.specs.Contents.{Contents}
use Rattle.iso_wire.specs.Faults.{out_of_memory}
use Rattle.iso_wire.specs.Reading.{message_at, whole}
use Rattle.iso_wire.specs.ReadingLaws.{IsShort}
use Rattle.iso_table.specs.Layout.{Layout}
use Rattle.iso_wire.specs.declared.judging.ResumePoint.{ResumePoint}
use Rattle.iso_wire.specs.Judging.{IsResumed}

-- what stands between two calls: a fault other than want of memory, and then nothing is taken; or a message's unfinished front
abbrev pub IsReady : Layout → List ℕ → Option UnpackFault → Type 0
IsReady t taken (Some e) = (taken ≡ []) × (e.cause ≢ Memory) × (e.cause ≢ Short)
IsReady t taken None = IsShort (message_at t taken)

-- and the bytes taken are ready for a further piece
abbrev pub IsReadyAfter : Layout → List ℕ → Result Fed UnpackFault → Type 0
IsReadyAfter t new (Ok fed) = IsShort (message_at t new)
IsReadyAfter t new (Err e) = (e.cause ≡ Memory → IsShort (message_at t new))
    × (e.cause ≢ Memory → (new ≡ []) × (e.cause ≢ Short))

-- the bytes that are taken afterwards
abbrev pub KeepsTaken : List ℕ → List ℕ → List ℕ → Result Fed UnpackFault → Type 0
KeepsTaken old new piece (Ok (fed.Done message used)) = (new ≡ []) × (used ≤ length piece)
KeepsTaken old new piece (Ok fed.More) = new ≡ old ++ piece
KeepsTaken old new piece (Err e) = (e.cause ≡ Memory → new ≡ old) × (e.cause ≢ Memory → new ≡ [])

-- a message and no fault was read
abbrev pub IsRead : {A : Type 0} → Result A UnpackFault → Type 0
IsRead (Ok x) = Unit {0}
IsRead (Err e) = ⊥

-- a message that was built is the one that reading gives, its end seen from behind the bytes taken before it; or memory ran out
abbrev pub IsBuilt : ℕ → Result (Contents × ℕ) UnpackFault → Result (Contents × ℕ) UnpackFault
    → Type 0
IsBuilt before (Ok x) read = read ≡ whole x.0 (before + x.1)
IsBuilt before (Err e) read = e ≡ out_of_memory

-- what building leaves of the bytes taken: nothing of a message that was built; without memory those before the last piece
abbrev pub LeavesBuilt : ℕ → List ℕ → List ℕ → Result (Contents × ℕ) UnpackFault → Type 0
LeavesBuilt before old new (Ok x) = (new ≡ []) × (x.1 ≤ length old - before)
LeavesBuilt before old new (Err e) = new ≡ take before old

-- the answer to a piece, by that to what stands behind its first bytes, so many: these belong to the message too
abbrev pub fed_with_front : ℕ → Fed → Fed
fed_with_front front (fed.Done message used) = fed.Done message (front + used)
fed_with_front front fed.More = fed.More

-- so many bytes more can be counted
abbrev pub FitsWithFront : ℕ → Fed → Type 0
FitsWithFront front (fed.Done message used) = front + used < 2 ^ 64
FitsWithFront front fed.More = Unit {0}

-- a piece, or its first bytes, so many
abbrev pub IsPieceOrFront : ℕ → List ℕ → List ℕ → Type 0
IsPieceOrFront n piece front = (front ≡ piece) ⊎ (front ≡ take n piece)

-- bytes whose first ones are judged up to this point
abbrev pub ResumesIn : Layout → ResumePoint → List ℕ → Type 0
ResumesIn t point bytes = (old : List ℕ) × (piece : List ℕ) × (bytes ≡ old ++ piece)
    × IsResumed t point old
