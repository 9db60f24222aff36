-- The names of faults, as fault lines tell them, and the elements that they name.
use Rattle.std.specs.Prelude.{ℕ, List, Option, Some, None, codes}
use Rattle.iso_table.specs.declared.fault.TableFault.{TableFault}
use Rattle.iso_table.specs.declared.fault.TableFault.TheVariants as tables
use Rattle.iso_table.specs.declared.fault.HostTableFault.{HostTableFault}
use Rattle.iso_table.specs.declared.fault.HostTableFault.TheVariants as hosts

-- the name of a table's fault
abbrev pub table_fault_name : TableFault → List ℕ
table_fault_name tables.NotJson = codes "NotJson"
table_fault_name tables.Shape = codes "Shape"
table_fault_name tables.BadVersion = codes "BadVersion"
table_fault_name (tables.BadNumber n) = codes "BadNumber"
table_fault_name (tables.Twice n) = codes "Twice"
table_fault_name (tables.BadMax n) = codes "BadMax"
table_fault_name (tables.CodingClass n) = codes "CodingClass"
table_fault_name (tables.PadNotAllowed n) = codes "PadNotAllowed"
table_fault_name tables.Profile = codes "Profile"
table_fault_name tables.Memory = codes "Memory"

-- the name of the reason why a host can't serve under a table
abbrev pub host_table_fault_name : HostTableFault → List ℕ
host_table_fault_name hosts.NotVersion0 = codes "NotVersion0"
host_table_fault_name (hosts.NoRow n) = codes "NoRow"
host_table_fault_name (hosts.RowShape n) = codes "RowShape"

-- the element that a table's fault names
abbrev pub table_fault_element : TableFault → Option ℕ
table_fault_element tables.NotJson = None
table_fault_element tables.Shape = None
table_fault_element tables.BadVersion = None
table_fault_element (tables.BadNumber n) = Some n
table_fault_element (tables.Twice n) = Some n
table_fault_element (tables.BadMax n) = Some n
table_fault_element (tables.CodingClass n) = Some n
table_fault_element (tables.PadNotAllowed n) = Some n
table_fault_element tables.Profile = None
table_fault_element tables.Memory = None

-- the element without the row that a host wants
abbrev pub host_table_fault_element : HostTableFault → Option ℕ
host_table_fault_element hosts.NotVersion0 = None
host_table_fault_element (hosts.NoRow n) = Some n
host_table_fault_element (hosts.RowShape n) = Some n
