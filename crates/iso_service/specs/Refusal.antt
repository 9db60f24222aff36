-- Whether what was given is refused.
use Rattle.std.specs.Prelude.{Bool, true, false}
use Rattle.iso_service.specs.declared.device.FileFault.TheVariants as file
use Rattle.iso_service.specs.declared.fault.StartFault.{StartFault}
use Rattle.iso_service.specs.declared.fault.StartFault.TheVariants.{File, Front, Damaged, Cut, NotMade, Unfit}

-- a file that is there already, or holds no journal of these accounts; and not a device, the right to it, or memory
abbrev pub is_refusal : StartFault → Bool
is_refusal (File file.Exists) = true
is_refusal (File file.Missing) = false
is_refusal (File file.NoFolder) = false
is_refusal (File file.Folder) = false
is_refusal (File file.Special) = false
is_refusal (File file.Busy) = false
is_refusal (File file.Shared) = false
is_refusal (File file.Denied) = false
is_refusal (File file.ReadOnly) = false
is_refusal (File file.Full) = false
is_refusal (File file.Device) = false
is_refusal (File file.Memory) = false
is_refusal (Front fault) = true
is_refusal (Damaged place) = true
is_refusal Cut = true
is_refusal NotMade = false
is_refusal Unfit = false
