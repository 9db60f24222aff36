-- What the bytes of a message tell of a transaction.
use Rattle.std.specs.Prelude.{ℕ, ◌==◌, List, length, Option, None, Result, Ok, Err, if◌then◌else◌}
use Rattle.iso_table.specs.Layout.{Layout}
use Rattle.iso_wire.specs.declared.fault.UnpackFault.{UnpackFault}
use Rattle.iso_wire.specs.Contents.{Contents}
use Rattle.iso_wire.specs.Reading.{message_at}
use Rattle.iso_order.specs.declared.told.Told.{Told}
use Rattle.iso_order.specs.Told.{told_of}

-- what a message of so many bytes tells that is read of bytes: nothing, if it isn't all of them
abbrev pub told_by : ℕ → Result (Contents × ℕ) UnpackFault → Option Told
told_by size (Err e) = None
told_by size (Ok (m, used)) = if used == size then told_of m else None

-- what the bytes tell that are a message of the table to the last one
abbrev pub told_in : Layout → List ℕ → Option Told
told_in t body = told_by (length body) (message_at t body)
