-- The numbers of faults, as logs and monitors show them.
use Rattle.std.specs.Prelude.{ℕ}
use Rattle.iso_parts.specs.declared.fault.FieldFault.{FieldFault}
use Rattle.iso_parts.specs.declared.fault.FieldFault.TheVariants.{WrongLength, NotInClass, PadEnd, BadLengthDigits, LengthOver, BadFiller, BadHex, Memory}
use Rattle.iso_parts.specs.declared.spec.SpecFault.{SpecFault}
use Rattle.iso_parts.specs.declared.spec.SpecFault.TheVariants.{BadMax, CodingClass, PadNotAllowed}
use Rattle.iso_parts.specs.declared.bitmap.BitmapCause.{BitmapCause}
use Rattle.iso_parts.specs.declared.bitmap.BitmapCause.TheVariants as causes

-- the number of a field's fault
abbrev pub field_fault_number : FieldFault → ℕ
field_fault_number WrongLength = 1
field_fault_number NotInClass = 2
field_fault_number PadEnd = 3
field_fault_number BadLengthDigits = 4
field_fault_number LengthOver = 5
field_fault_number BadFiller = 6
field_fault_number BadHex = 7
field_fault_number Memory = 8

-- the number of a row's fault
abbrev pub spec_fault_number : SpecFault → ℕ
spec_fault_number BadMax = 1
spec_fault_number CodingClass = 2
spec_fault_number PadNotAllowed = 3

-- the number of what is wrong with a bitmap
abbrev pub bitmap_cause_number : BitmapCause → ℕ
bitmap_cause_number causes.BadHex = 1
bitmap_cause_number causes.ThirdBitmap = 2
