-- The body of an element, left where it lies.
use Rattle.std.specs.Prelude.{◌≡◌, ℕ, ℤ, pos, negsuc, ◌+◌, ◌≤◌, if◌then◌else◌, List, length, Option, Some, None, Result, Ok, Err}
use Rattle.iso_table.specs.Layout.{Layout}
use Rattle.iso_wire.specs.declared.fault.UnpackFault.{UnpackFault}
use Rattle.iso_wire.specs.Contents.{Contents}
use Rattle.iso_wire.specs.Elements.{has, value_in}
use Rattle.iso_wire.specs.Reading.{message_at}
use Rattle.iso_wire.specs.Viewing.{ViewContents, IsViewed}
use Rattle.iso_c.specs.declared.fault.RumpadolFault.{RumpadolFault}
use Rattle.iso_c.specs.declared.parts.RumpadolPart.{RumpadolPart}
use Rattle.iso_c.specs.FaultNumbers.{empty_slot, no_element, unpack_fault}
use Rattle.iso_c.specs.Parts.{Part, bytes_in}

-- the body of element n of the message that the bytes begin with lies there, and begins there
abbrev pub IsBodyAt : Layout → List ℕ → ℕ → RumpadolPart → Type 0
IsBodyAt t b n p =
    (v : ViewContents) × IsViewed t v b × (p.element ≡ n) × (p.start + p.length ≤ v.used)
    × (value_in v.wires n ≡ Some (bytes_in b p)) × (length (bytes_in b p) ≡ p.length)
    × (value_in v.starts n ≡ Some p.start)

-- the bytes begin with no message, or with one that doesn't have the element
abbrev pub body_fault : ℕ → Result (Contents × ℕ) UnpackFault → Option RumpadolFault
body_fault n (Err e) = Some (unpack_fault e)
body_fault n (Ok x) = if has x.0.elements n then None else Some (no_element n)

-- the body isn't told for this reason
abbrev pub IsViewFault : Layout → List ℕ → ℕ → RumpadolFault → Type 0
IsViewFault t b n f = body_fault n (message_at t b) ≡ Some f

-- where the body lies, under the table that a slot holds; under none there is no body
abbrev pub IsBodyAtHeld : Option Layout → List ℕ → ℕ → RumpadolPart → Type 0
IsBodyAtHeld (Some t) b n p = IsBodyAt t b n p
IsBodyAtHeld None b n p = ⊥

-- why the body isn't told, under the table that a slot holds; or the slot is empty
abbrev pub IsViewFaultHeld : Option Layout → List ℕ → ℕ → RumpadolFault → Type 0
IsViewFaultHeld (Some t) b n f = IsViewFault t b n f
IsViewFaultHeld None b n f = f ≡ empty_slot

-- the length of a body, and a part with the one property; or -1, the part as it was, and a fault with the other
abbrev pub RepliesPart : (RumpadolPart → Type 0) → (RumpadolFault → Type 0) → ℤ → Part
    → RumpadolFault → Type 0
RepliesPart P Q (pos size) body f = P body.new × (size ≡ body.new.length)
RepliesPart P Q (negsuc k) body f = (k ≡ 0) × (body.new ≡ body.old) × Q f
