-- A message that is written from parts and values.
use Rattle.std.specs.Prelude.{◌≡◌, ◌≢◌, ℕ, nat_le, if◌then◌else◌, List, [], Option, Some, None, Result, Ok, Err}
use Rattle.iso_table.specs.Layout.{Layout}
use Rattle.iso_wire.specs.declared.fault.PackFault.{PackFault}
use Rattle.iso_wire.specs.Contents.{Contents}
use Rattle.iso_wire.specs.Refusal.{message_refusal}
use Rattle.iso_wire.specs.Spelling.{PlainSpelling}
use Rattle.iso_c.specs.declared.fault.RumpadolFault.{RumpadolFault}
use Rattle.iso_c.specs.declared.parts.RumpadolPart.{RumpadolPart}
use Rattle.iso_c.specs.FaultNumbers.{no_memory, empty_slot, bad_type, pack_fault}
use Rattle.iso_c.specs.Parts.{elements_or_fault}

-- a message that is refused by its table
abbrev pub pack_refusal : Option PackFault → Option RumpadolFault
pack_refusal None = None
pack_refusal (Some e) = Some (pack_fault e)

-- ---- a message of a type, with the elements that parts tell of

-- the message of a type and these elements, unless a part was refused
abbrev pub message_by : ℕ → Result (List (ℕ × List ℕ)) RumpadolFault → Result Contents RumpadolFault
message_by mti (Ok es) = Ok (record { mti = mti; elements = es })
message_by mti (Err f) = Err f

-- a type of four digits, and then the parts in their order
abbrev pub message_of : ℕ → List RumpadolPart → List ℕ → Result Contents RumpadolFault
message_of mti parts values =
    if nat_le mti 9999 then message_by mti (elements_or_fault values parts []) else Err bad_type

-- ---- its bytes

-- the plain spelling of that message
abbrev pub Packs : Layout → Result Contents RumpadolFault → List ℕ → Type 0
Packs t made b = (m : Contents) × (made ≡ Ok m) × PlainSpelling t m b

-- why nothing is written: the type or a part is refused, or the table refuses the message
abbrev pub packing_refusal : Layout → Result Contents RumpadolFault → Option RumpadolFault
packing_refusal t (Ok m) = pack_refusal (message_refusal t m)
packing_refusal t (Err f) = Some f

-- the type, a part or the table refuses it, unless memory ran out
abbrev pub IsPackingFault : Layout → Result Contents RumpadolFault → RumpadolFault → Type 0
IsPackingFault t made f = f ≢ no_memory → packing_refusal t made ≡ Some f

-- the plain spelling under the table that a slot holds; an empty slot gives none
abbrev pub PacksHeld : Option Layout → Result Contents RumpadolFault → List ℕ → Type 0
PacksHeld (Some t) made b = Packs t made b
PacksHeld None made b = ⊥

-- why nothing is written under a slot's table, or that the slot is empty
abbrev pub IsPackingFaultHeld : Option Layout → Result Contents RumpadolFault → RumpadolFault
    → Type 0
IsPackingFaultHeld (Some t) made f = IsPackingFault t made f
IsPackingFaultHeld None made f = f ≡ empty_slot
