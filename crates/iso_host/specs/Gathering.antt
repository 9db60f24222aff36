-- A body that is read: whole where it lies, or as its pieces come.
-- Inner: bodies and proofs cite it, and no public clause does.
use Rattle.std.specs.Prelude.{◌≡◌, ℕ, ◌<◌, List, [], ◌++◌, length, Option, Some, None}
use Rattle.iso_table.specs.Layout.{Layout, AreGood}
use Rattle.iso_wire.specs.Contents.{Contents}
use Rattle.iso_wire.specs.Unpacker.{Feeding}
use Rattle.iso_wire.specs.Spelling.{AreBytes, Spelling}
use Rattle.iso_host.specs.Asking.{message_in}
use Rattle.iso_host.specs.Hosting.{IsBodyFault}
use Rattle.iso_host.specs.declared.handled.BodyFault.{BodyFault}

-- the body is this message, which it spells; or it is none, and why
abbrev pub ReadsBody : Layout → List ℕ → Contents → Option BodyFault → Type 0
ReadsBody t body m None = (message_in t body ≡ Some m) × ((bytes : List ℕ) × Spelling t m bytes)
ReadsBody t body m (Some fault) = (message_in t body ≡ None) × IsBodyFault t body fault

-- the table of an unfinished body, and the bytes that came of it
pub record Gathered : Type 0 where
  pub table : Layout
  pub part : List ℕ

-- whatever bytes follow these, and some do, this is why the body is no message
abbrev pub IsLost : Layout → List ℕ → BodyFault → Type 0
IsLost t part fault = (rest : List ℕ) → 0 < length rest → IsBodyFault t (part ++ rest) fault

-- the unpacker holds the bytes that came, while they may begin the message; then only the fault is kept
abbrev pub Holds : Feeding → List ℕ → Option BodyFault → Type 0
Holds u part None = (u.taken ≡ part) × (u.stopped ≡ None)
Holds u part (Some fault) = (u.taken ≡ []) × (u.stopped ≡ None) × IsLost u.table part fault

-- so many bytes of a body came, under a good table
pub record IsGathered (u : Feeding) (part : List ℕ) (fault : Option BodyFault) : Type 0 where
  pub good : AreGood u.table.rows
  pub bytes : AreBytes part
  pub holds : Holds u part fault
