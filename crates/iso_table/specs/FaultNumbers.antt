-- The numbers of faults, as logs and monitors show them.
use Rattle.std.specs.Prelude.{ℕ}
use Rattle.iso_table.specs.declared.fault.TableFault.{TableFault}
use Rattle.iso_table.specs.declared.fault.TableFault.TheVariants.{NotJson, Shape, BadVersion, BadNumber, Twice, BadMax, CodingClass, PadNotAllowed, Profile, Memory}
use Rattle.iso_table.specs.declared.fault.HostTableFault.{HostTableFault}
use Rattle.iso_table.specs.declared.fault.HostTableFault.TheVariants.{NotVersion0, NoRow, RowShape}

-- the number of a table's fault
abbrev pub table_fault_number : TableFault → ℕ
table_fault_number NotJson = 1
table_fault_number Shape = 2
table_fault_number BadVersion = 3
table_fault_number (BadNumber n) = 4
table_fault_number (Twice n) = 5
table_fault_number (BadMax n) = 6
table_fault_number (CodingClass n) = 7
table_fault_number (PadNotAllowed n) = 8
table_fault_number Profile = 9
table_fault_number Memory = 10

-- the number of the reason why a host can't serve under a table
abbrev pub host_table_fault_number : HostTableFault → ℕ
host_table_fault_number NotVersion0 = 1
host_table_fault_number (NoRow n) = 2
host_table_fault_number (RowShape n) = 3
