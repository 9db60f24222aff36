-- A message that is read into the caller's room.
use Rattle.std.specs.Prelude.{◌≡◌, ◌≢◌, ℕ, ℤ, pos, negsuc, ◌≤◌, nat_lt, if◌then◌else◌, List, length, take, drop, Option, Some, None, Result, Ok, Err}
use Rattle.iso_table.specs.Layout.{Layout}
use Rattle.iso_wire.specs.declared.fault.UnpackFault.{UnpackFault}
use Rattle.iso_wire.specs.Contents.{Contents}
use Rattle.iso_wire.specs.Reading.{message_at}
use Rattle.iso_wire.specs.Spelling.{BeginsWith}
use Rattle.iso_c.specs.declared.fault.RumpadolFault.{RumpadolFault}
use Rattle.iso_c.specs.declared.parts.RumpadolPart.{RumpadolPart}
use Rattle.iso_c.specs.declared.parts.RumpadolMessage.{RumpadolMessage}
use Rattle.iso_c.specs.FaultNumbers.{no_memory, empty_slot, short_parts, short_room, unpack_fault}
use Rattle.iso_c.specs.Parts.{elements_in, parts_from, values_of}

-- why bytes aren't read, unless memory ran out
abbrev pub read_fault : {A : Type 0} → Result A UnpackFault → Option RumpadolFault
read_fault (Ok x) = None
read_fault (Err e) = Some (unpack_fault e)

-- the bytes aren't read for this reason, unless memory ran out
abbrev pub IsReadFault : Layout → List ℕ → RumpadolFault → Type 0
IsReadFault t b f = f ≢ no_memory → read_fault (message_at t b) ≡ Some f

-- the same under the table that a slot holds, or that the slot is empty
abbrev pub IsReadFaultHeld : Option Layout → List ℕ → RumpadolFault → Type 0
IsReadFaultHeld (Some t) b f = IsReadFault t b f
IsReadFaultHeld None b f = f ≡ empty_slot

-- ---- what is given

-- what the caller holds of a message: what is told of it, its parts, and the room of its values
pub record Holding : Type 0 where
  pub message : RumpadolMessage
  pub parts : List RumpadolPart
  pub values : List ℕ

-- what the caller holds before a call, and after it
pub record Holdings : Type 0 where
  pub old : Holding
  pub new : Holding

-- the rooms begin with the parts and the values of the message, which is so many bytes, and what lies behind these stays
pub record Unpacks (t : Layout) (b : List ℕ) (used : ℕ) (held : Holdings) : Type 0 where
  pub m : Contents
  pub begins : BeginsWith t m used b
  pub mti : held.new.message.mti ≡ m.mti
  pub few : held.new.message.parts ≤ length held.new.parts
  pub room : held.new.message.values ≤ length held.new.values
  pub parts_are : take held.new.message.parts held.new.parts ≡ parts_from 0 m.elements
  pub values_are : take held.new.message.values held.new.values ≡ values_of m.elements
  pub parts_behind : drop held.new.message.parts held.new.parts
      ≡ drop held.new.message.parts held.old.parts
  pub values_behind : drop held.new.message.values held.new.values
      ≡ drop held.new.message.values held.old.values
  -- each part tells where its element's value lies
  pub lies : elements_in held.new.values (take held.new.message.parts held.new.parts) ≡ m.elements

-- the rooms as they were
pub record KeepsRooms (held : Holdings) : Type 0 where
  pub message : held.new.message ≡ held.old.message
  pub parts_kept : held.new.parts ≡ held.old.parts
  pub values_kept : held.new.values ≡ held.old.values

-- why so many parts and bytes aren't given: more are wanted than there are places, or than there is room
abbrev pub room_fault : ℕ → ℕ → ℕ → ℕ → Option RumpadolFault
room_fault parts bytes places room =
    if nat_lt places parts then Some (short_parts parts) else if nat_lt room bytes
    then Some (short_room bytes) else None

-- why a message isn't given: the bytes begin with none, or there is no room for it
abbrev pub given_fault : Result (Contents × ℕ) UnpackFault → ℕ → ℕ → Option RumpadolFault
given_fault (Ok x) places room =
    room_fault (length x.0.elements) (length (values_of x.0.elements)) places room
given_fault (Err e) places room = Some (unpack_fault e)

-- the same under the table that a slot holds, unless memory ran out; or the slot is empty
abbrev pub IsGivenFault : Option Layout → List ℕ → ℕ → ℕ → RumpadolFault → Type 0
IsGivenFault (Some t) b places room f = f ≢ no_memory
    → given_fault (message_at t b) places room ≡ Some f
IsGivenFault None b places room f = f ≡ empty_slot

-- the rooms have the message under the table that a slot holds; under none there is none
abbrev pub UnpacksHeld : Option Layout → List ℕ → ℕ → Holdings → Type 0
UnpacksHeld (Some t) b used held = Unpacks t b used held
UnpacksHeld None b used held = ⊥

-- how many bytes the message takes, or -1 and the first fault
abbrev pub IsUnpackReply : Option Layout → List ℕ → ℤ → Holdings → RumpadolFault → Type 0
IsUnpackReply t b (pos used) held f = UnpacksHeld t b used held
IsUnpackReply t b (negsuc k) held f = (k ≡ 0) × KeepsRooms held
    × IsGivenFault t b (length held.old.parts) (length held.old.values) f
