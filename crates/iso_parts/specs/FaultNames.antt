-- The names of faults, as fault lines tell them.
use Rattle.std.specs.Prelude.{ℕ, List, codes}
use Rattle.iso_parts.specs.declared.fault.FieldFault.{FieldFault}
use Rattle.iso_parts.specs.declared.fault.FieldFault.TheVariants as fields

-- the name of a field's fault
abbrev pub field_fault_name : FieldFault → List ℕ
field_fault_name fields.WrongLength = codes "WrongLength"
field_fault_name fields.NotInClass = codes "NotInClass"
field_fault_name fields.PadEnd = codes "PadEnd"
field_fault_name fields.BadLengthDigits = codes "BadLengthDigits"
field_fault_name fields.LengthOver = codes "LengthOver"
field_fault_name fields.BadFiller = codes "BadFiller"
field_fault_name fields.BadHex = codes "BadHex"
field_fault_name fields.Memory = codes "Memory"
