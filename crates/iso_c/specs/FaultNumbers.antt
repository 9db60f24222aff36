-- The numbers of faults, and faults as C sees them.
use Rattle.std.specs.Prelude.{ℕ, ◌+◌, unwrap_or}
use Rattle.iso_parts.specs.declared.fault.FieldFault.{FieldFault}
use Rattle.iso_parts.specs.declared.fault.FieldFault.TheVariants as fields
use Rattle.iso_parts.specs.FaultNumbers.{field_fault_number}
use Rattle.iso_wire.specs.declared.fault.UnpackFault.{UnpackFault}
use Rattle.iso_wire.specs.declared.fault.UnpackCause.{UnpackCause}
use Rattle.iso_wire.specs.declared.fault.UnpackCause.TheVariants as causes
use Rattle.iso_wire.specs.declared.fault.PackFault.{PackFault}
use Rattle.iso_wire.specs.declared.fault.PackFault.TheVariants as pack
use Rattle.iso_wire.specs.declared.fault.SetFault.{SetFault}
use Rattle.iso_wire.specs.declared.fault.SetFault.TheVariants as set
use Rattle.iso_wire.specs.declared.framing.FrameFault.{FrameFault}
use Rattle.iso_wire.specs.declared.framing.FrameFault.TheVariants as frame
use Rattle.iso_wire.specs.FaultNames.{pack_fault_element}
use Rattle.iso_wire.specs.FaultNumbers.{unpack_cause_number, pack_fault_number, set_fault_number, frame_fault_number}
use Rattle.iso_table.specs.declared.fault.TableFault.{TableFault}
use Rattle.iso_table.specs.declared.fault.TableFault.TheVariants as tables
use Rattle.iso_table.specs.FaultNames.{table_fault_element}
use Rattle.iso_table.specs.FaultNumbers.{table_fault_number}
use Rattle.iso_c.specs.declared.fault.RumpadolFault.{RumpadolFault}

-- a fault with no place
abbrev pub only : ℕ → RumpadolFault
only n = record { number = n; element = 0; offset = 0 }

-- a fault at an element
abbrev pub at_element : ℕ → ℕ → RumpadolFault
at_element n element = record { number = n; element = element; offset = 0 }

-- a fault at an offset
abbrev pub at_offset : ℕ → ℕ → RumpadolFault
at_offset n offset = record { number = n; element = 0; offset = offset }

-- ---- the faults of this library alone

-- memory ran out
abbrev pub no_memory : RumpadolFault
no_memory = only 1

-- the slot holds no table
abbrev pub empty_slot : RumpadolFault
empty_slot = only 2

-- no built-in table has the number
abbrev pub no_such_table : RumpadolFault
no_such_table = only 3

-- so much room is wanted
abbrev pub short_room : ℕ → RumpadolFault
short_room wanted = at_offset 4 wanted

-- the message ends at the offset, and bytes follow
abbrev pub trailing_bytes : ℕ → RumpadolFault
trailing_bytes used = at_offset 5 used

-- the message doesn't have the element
abbrev pub no_element : ℕ → RumpadolFault
no_element n = at_element 6 n

-- the part, which begins at the offset, lies outside the values
abbrev pub bad_part : ℕ → ℕ → RumpadolFault
bad_part element start = record { number = 7; element = element; offset = start }

-- the message type has more than four digits
abbrev pub bad_type : RumpadolFault
bad_type = only 8

-- no kind of header has the number
abbrev pub no_such_header : RumpadolFault
no_such_header = only 9

-- so many parts are wanted
abbrev pub short_parts : ℕ → RumpadolFault
short_parts wanted = at_offset 10 wanted

-- ---- the faults of the libraries below: a hundred for the type, and the fault's own number; want of memory is 1 everywhere

-- the number of what is wrong with a value or its bytes
abbrev pub field_code : FieldFault → ℕ
field_code fields.Memory = no_memory.number
field_code e = 200 + field_fault_number e

-- the number of why bytes are no message
abbrev pub unpack_code : UnpackCause → ℕ
unpack_code causes.Memory = no_memory.number
unpack_code (causes.Field e) = field_code e
unpack_code e = 100 + unpack_cause_number e

-- where bytes stop being a message: why, at which element, and at which offset
abbrev pub unpack_fault : UnpackFault → RumpadolFault
unpack_fault f = record { number = unpack_code f.cause; element = f.element; offset = f.at }

-- the element is 0 where none is named
abbrev pub pack_fault : PackFault → RumpadolFault
pack_fault pack.Memory = no_memory
pack_fault e = at_element (300 + pack_fault_number e) (unwrap_or (pack_fault_element e) 0)

-- what is wrong with a table; the element is 0 where none is named
abbrev pub table_fault : TableFault → RumpadolFault
table_fault tables.Memory = no_memory
table_fault e = at_element (400 + table_fault_number e) (unwrap_or (table_fault_element e) 0)

-- what is wrong with a frame
abbrev pub frame_fault : FrameFault → RumpadolFault
frame_fault frame.Memory = no_memory
frame_fault e = only (500 + frame_fault_number e)

-- no element has the number
abbrev pub bad_number : ℕ → RumpadolFault
bad_number n = at_element (600 + set_fault_number (set.BadNumber n)) n

-- why an element isn't set
abbrev pub set_fault : SetFault → RumpadolFault
set_fault (set.BadNumber n) = bad_number n
set_fault set.Memory = no_memory
