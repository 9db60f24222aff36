-- The numbers of faults, as logs and monitors show them.
use Rattle.std.specs.Prelude.{ℕ}
use Rattle.iso_wire.specs.declared.fault.SetFault.{SetFault}
use Rattle.iso_wire.specs.declared.fault.SetFault.TheVariants as set
use Rattle.iso_wire.specs.declared.fault.PackFault.{PackFault}
use Rattle.iso_wire.specs.declared.fault.PackFault.TheVariants as pack
use Rattle.iso_wire.specs.declared.fault.UnpackCause.{UnpackCause}
use Rattle.iso_wire.specs.declared.fault.UnpackCause.TheVariants as unpack
use Rattle.iso_wire.specs.declared.framing.FrameFault.{FrameFault}
use Rattle.iso_wire.specs.declared.framing.FrameFault.TheVariants as frame

-- the number of why a value was not set
abbrev pub set_fault_number : SetFault → ℕ
set_fault_number (set.BadNumber n) = 1
set_fault_number set.Memory = 2

-- the number of why a message has no spelling
abbrev pub pack_fault_number : PackFault → ℕ
pack_fault_number pack.WrongVersion = 1
pack_fault_number (pack.NoRow n) = 2
pack_fault_number (pack.WrongLength n) = 3
pack_fault_number (pack.NotInClass n) = 4
pack_fault_number (pack.PadEnd n) = 5
pack_fault_number pack.Memory = 6

-- the number of what is wrong with the bytes of a message
abbrev pub unpack_cause_number : UnpackCause → ℕ
unpack_cause_number unpack.Short = 1
unpack_cause_number unpack.BadMti = 2
unpack_cause_number unpack.WrongVersion = 3
unpack_cause_number unpack.BadHex = 4
unpack_cause_number unpack.ThirdBitmap = 5
unpack_cause_number (unpack.UnknownElement n) = 6
unpack_cause_number (unpack.Field e) = 7
unpack_cause_number unpack.Memory = 8

-- the number of a frame's fault
abbrev pub frame_fault_number : FrameFault → ℕ
frame_fault_number frame.TooLong = 1
frame_fault_number frame.BadDigits = 2
frame_fault_number frame.Memory = 3
