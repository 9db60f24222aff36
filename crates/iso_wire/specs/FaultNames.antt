-- The names of faults, as fault lines tell them, and the elements that they name.
use Rattle.std.specs.Prelude.{ℕ, List, Option, Some, None, codes}
use Rattle.iso_parts.specs.FaultNames.{field_fault_name}
use Rattle.iso_wire.specs.declared.fault.SetFault.{SetFault}
use Rattle.iso_wire.specs.declared.fault.SetFault.TheVariants as set
use Rattle.iso_wire.specs.declared.fault.PackFault.{PackFault}
use Rattle.iso_wire.specs.declared.fault.PackFault.TheVariants as pack
use Rattle.iso_wire.specs.declared.fault.UnpackCause.{UnpackCause}
use Rattle.iso_wire.specs.declared.fault.UnpackCause.TheVariants as unpack
use Rattle.iso_wire.specs.declared.framing.FrameFault.{FrameFault}
use Rattle.iso_wire.specs.declared.framing.FrameFault.TheVariants as frame

-- the name of why a value was not set
abbrev pub set_fault_name : SetFault → List ℕ
set_fault_name (set.BadNumber n) = codes "BadNumber"
set_fault_name set.Memory = codes "Memory"

-- the name of why a message has no spelling
abbrev pub pack_fault_name : PackFault → List ℕ
pack_fault_name pack.WrongVersion = codes "WrongVersion"
pack_fault_name (pack.NoRow n) = codes "NoRow"
pack_fault_name (pack.WrongLength n) = codes "WrongLength"
pack_fault_name (pack.NotInClass n) = codes "NotInClass"
pack_fault_name (pack.PadEnd n) = codes "PadEnd"
pack_fault_name pack.Memory = codes "Memory"

-- the name of what is wrong with the bytes of a message: of a field that of its fault
abbrev pub unpack_cause_name : UnpackCause → List ℕ
unpack_cause_name unpack.Short = codes "Short"
unpack_cause_name unpack.BadMti = codes "BadMti"
unpack_cause_name unpack.WrongVersion = codes "WrongVersion"
unpack_cause_name unpack.BadHex = codes "BadHex"
unpack_cause_name unpack.ThirdBitmap = codes "ThirdBitmap"
unpack_cause_name (unpack.UnknownElement n) = codes "UnknownElement"
unpack_cause_name (unpack.Field fault) = field_fault_name fault
unpack_cause_name unpack.Memory = codes "Memory"

-- the name of a frame's fault
abbrev pub frame_fault_name : FrameFault → List ℕ
frame_fault_name frame.TooLong = codes "TooLong"
frame_fault_name frame.BadDigits = codes "BadDigits"
frame_fault_name frame.Memory = codes "Memory"

-- the element for which a message has no spelling
abbrev pub pack_fault_element : PackFault → Option ℕ
pack_fault_element pack.WrongVersion = None
pack_fault_element (pack.NoRow n) = Some n
pack_fault_element (pack.WrongLength n) = Some n
pack_fault_element (pack.NotInClass n) = Some n
pack_fault_element (pack.PadEnd n) = Some n
pack_fault_element pack.Memory = None
