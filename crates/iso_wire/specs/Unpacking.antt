-- What reading a message answers, and what that means for the bytes.
use Rattle.std.specs.Prelude.{◌≡◌, ◌≢◌, ℕ, List, ◌++◌, length, Result, Ok, Err, IfOk, IfErr}
use Rattle.iso_wire.specs.declared.fault.UnpackFault.{UnpackFault}
use Rattle.iso_wire.specs.declared.fault.UnpackCause.{UnpackCause}
use Rattle.iso_wire.specs.declared.fault.UnpackCause.TheVariants.{Short, Memory}
use Rattle.iso_wire.specs.Contents.{Contents}
use Rattle.iso_wire.specs.Faults.{out_of_memory}
use Rattle.iso_wire.specs.Reading.{halt, message_at, whole, Unpacks}
use Rattle.iso_wire.specs.Spelling.{AreBytes, BeginsWith, BeginsWithNone, IsUnambiguous, Spelling}
use Rattle.iso_wire.specs.Stops.{Stops}
use Rattle.iso_table.specs.Layout.{Layout}

-- the answer is the message that the bytes begin with, and how many bytes it takes; or the fault
pub record IsUnpacked (t : Layout) (b : List ℕ)
    (result : Result (Contents × ℕ) UnpackFault) : Type 0 where
  -- what is read is spelled by the first bytes
  pub found : IfOk result (λ x. BeginsWith t x.0 x.1 b)
  -- what the first bytes spell is read, unless memory runs out
  pub only : (m : Contents) (front rest : List ℕ) → Spelling t m front → b ≡ front ++ rest
      → Unpacks result (whole m (length front))
  -- which fault it is, and where, unless memory ran out,
  pub exact : Unpacks result (message_at t b)
  -- and then it tells no place
  pub memory : IfErr result (λ e. e.cause ≡ Memory → e ≡ out_of_memory)
  -- a fault tells where the bytes stop, by their whole pieces, and why,
  pub stops : IfErr result (λ e. e.cause ≢ Memory → Stops t b e.at e.element e.cause)
  -- and where they stop is told, unless memory runs out
  pub told : (at element : ℕ) (cause : UnpackCause) → Stops t b at element cause
      → Unpacks result (halt element at cause)
  -- a fault comes only where the bytes begin with no spelling,
  pub refused : IfErr result (λ e. e.cause ≢ Memory → BeginsWithNone t b)
  -- and where a whole piece is bad, no continuation begins with one either
  pub settled : IfErr result (λ e. e.cause ≢ Memory → e.cause ≢ Short → (more : List ℕ)
      → AreBytes more → BeginsWithNone t (b ++ more))
  -- no spelling begins with another, and no bytes spell two messages
  pub one : IsUnambiguous t

-- the answer of a function that reads into a message, with what the message is then
abbrev pub read_into : Contents → Result ℕ UnpackFault → Result (Contents × ℕ) UnpackFault
read_into m (Ok used) = Ok (m, used)
read_into m (Err e) = Err e
