-- Messages from one table to another.
use Rattle.std.specs.Prelude.{ℕ, ◌≡◌, ◌≢◌, nat_lt, if◌then◌else◌, List, length, Option, Some, None, Result, Ok, Err}
use Rattle.iso_table.specs.Layout.{Layout}
use Rattle.iso_wire.specs.declared.fault.UnpackFault.{UnpackFault}
use Rattle.iso_wire.specs.Contents.{Contents}
use Rattle.iso_wire.specs.Reading.{message_at}
use Rattle.iso_wire.specs.Refusal.{message_refusal}
use Rattle.iso_wire.specs.Spelling.{Converts}
use Rattle.iso_c.specs.declared.fault.RumpadolFault.{RumpadolFault}
use Rattle.iso_c.specs.Packing.{pack_refusal}
use Rattle.iso_c.specs.FaultNumbers.{no_memory, empty_slot, trailing_bytes, unpack_fault}

-- why what was read isn't written under a table
abbrev pub read_refusal : Layout → List ℕ → Result (Contents × ℕ) UnpackFault → Option RumpadolFault
read_refusal t all (Err e) = Some (unpack_fault e)
read_refusal t all (Ok x) =
    if nat_lt x.1 (length all) then Some (trailing_bytes x.1)
    else pack_refusal (message_refusal t x.0)

-- why bytes aren't converted: no message, bytes behind it, or no message of the second table
abbrev pub convert_refusal : Layout → Layout → List ℕ → Option RumpadolFault
convert_refusal f t all = read_refusal t all (message_at f all)

-- unless memory ran out
abbrev pub IsConvertFault : Layout → Layout → List ℕ → RumpadolFault → Type 0
IsConvertFault f t all e = e ≢ no_memory → convert_refusal f t all ≡ Some e

-- ---- the same under the tables that two slots hold

-- the bytes are converted; neither slot is empty
abbrev pub ConvertsHeld : Option Layout → Option Layout → List ℕ → List ℕ → Type 0
ConvertsHeld (Some f) (Some t) all b = Converts f t all b
ConvertsHeld None to all b = ⊥
ConvertsHeld (Some f) None all b = ⊥

-- why they aren't; an empty slot is told before all else
abbrev pub IsConvertFaultHeld : Option Layout → Option Layout → List ℕ → RumpadolFault → Type 0
IsConvertFaultHeld (Some f) (Some t) all e = IsConvertFault f t all e
IsConvertFaultHeld None to all e = e ≡ empty_slot
IsConvertFaultHeld (Some f) None all e = e ≡ empty_slot
