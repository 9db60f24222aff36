-- A message that was read, with its values end to end, before it is given to the caller.
-- Inner: bodies and proofs cite it, and no public clause does.
use Rattle.std.specs.Prelude.{◌≡◌, ℕ, ℤ, pos, negsuc, ◌≤◌, List, length, take, drop, Option, Some, None}
use Rattle.iso_table.specs.Layout.{Layout}
use Rattle.iso_wire.specs.Contents.{Contents}
use Rattle.iso_wire.specs.Reading.{message_at, whole}
use Rattle.iso_wire.specs.Spelling.{BeginsWith}
use Rattle.iso_c.specs.declared.fault.RumpadolFault.{RumpadolFault}
use Rattle.iso_c.specs.declared.unpacking.SpreadMessage.{SpreadMessage}
use Rattle.iso_c.specs.Parts.{parts_from, values_of}
use Rattle.iso_c.specs.Unpacking.{Holdings, KeepsRooms, room_fault}

-- the message that the bytes begin with, with its values end to end and their parts
pub record IsSpread (t : Layout) (b : List ℕ) (found : SpreadMessage) : Type 0 where
  pub m : Contents
  pub begins : BeginsWith t m found.used b
  pub read : message_at t b ≡ whole m found.used
  pub mti : found.mti ≡ m.mti
  pub parts : found.parts.items ≡ parts_from 0 m.elements
  pub values : found.values.items ≡ values_of m.elements

-- the same under the table that a slot holds; under none nothing is found
abbrev pub IsSpreadHeld : Option Layout → List ℕ → SpreadMessage → Type 0
IsSpreadHeld (Some t) b found = IsSpread t b found
IsSpreadHeld None b found = ⊥

-- what was found is given where there is room, and what lies behind it stays
pub record GivesSpread (found : SpreadMessage) (used : ℕ) (held : Holdings) : Type 0 where
  pub used_is : used ≡ found.used
  pub message : held.new.message ≡ record {
    mti = found.mti;
    parts = length found.parts.items;
    values = length found.values.items;
  }
  pub few : length found.parts.items ≤ length held.new.parts
  pub room : length found.values.items ≤ length held.new.values
  pub parts_are : take (length found.parts.items) held.new.parts ≡ found.parts.items
  pub values_are : take (length found.values.items) held.new.values ≡ found.values.items
  pub parts_behind : drop (length found.parts.items) held.new.parts
      ≡ drop (length found.parts.items) held.old.parts
  pub values_behind : drop (length found.values.items) held.new.values
      ≡ drop (length found.values.items) held.old.values

-- what was found is given; or -1, why there is no room for it, and all stays
abbrev pub GivesMessage : SpreadMessage → ℤ → Holdings → RumpadolFault → Type 0
GivesMessage found (pos used) held f = GivesSpread found used held
GivesMessage found (negsuc k) held f = (k ≡ 0) × KeepsRooms held
    × (room_fault (length found.parts.items) (length found.values.items) (length held.old.parts)
    (length held.old.values) ≡ Some f)
