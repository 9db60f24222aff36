-- What C keeps: memory in which a table lies, or none; and which tables are put there.
use Rattle.std.specs.Prelude.{ℕ, ◌≡◌, ◌≢◌, ◌⊎◌, nat_lt, if◌then◌else◌, List, Option}
use denote.RattleType.{RattleType}
use Rattle.std.specs.contracts.option.Option.{the_row as option_row}
use base.Fml.{Fml}
use base.Fraction.{full_share}
use denote.RawPtr.{Ptr, lies_at}
use Rattle.iso_parts.specs.declared.digits.Digits.TheVariants.{Ascii, Bcd}
use Rattle.iso_table.specs.contracts.table.Table.{the_row}
use Rattle.iso_table.specs.declared.fault.TableFault.{TableFault}
use Rattle.iso_table.specs.declared.fault.TableFault.TheVariants.{Memory, NotJson}
use Rattle.iso_table.specs.Layout.{Layout}
use Rattle.iso_table.specs.Document.{IsNotJson, IsDocumentFault}
use Rattle.iso_table.specs.Edition87.{IsEdition87}
use Rattle.iso_c.specs.declared.fault.RumpadolFault.{RumpadolFault}
use Rattle.iso_c.specs.FaultNumbers.{no_memory, no_such_table, table_fault}

-- how many bytes of memory C gives: RUMPADOL_SLOT_BYTES of the header
abbrev pub slot_bytes : ℕ
slot_bytes = 64

-- a table, or none
abbrev pub slot : RattleType
slot = option_row the_row

-- it lies at the address
abbrev pub slot_lies_at : Ptr → Option Layout → Fml
slot_lies_at p t = lies_at slot full_share p t

-- ---- the tables that are put into it

-- 0 names the 1987 table in ASCII, 1 the one in BCD
abbrev pub IsBuiltIn : ℕ → Layout → Type 0
IsBuiltIn name t = ((name ≡ 0) × IsEdition87 Ascii t) ⊎ ((name ≡ 1) × IsEdition87 Bcd t)

-- no other number names one; for a good one memory ran out
abbrev pub IsBuiltInFault : ℕ → RumpadolFault → Type 0
IsBuiltInFault name f = f ≡ (if nat_lt name 2 then no_memory else no_such_table)

-- the first fault of a text that stands for no table, unless memory ran out
abbrev pub IsTextFault : List ℕ → TableFault → Type 0
IsTextFault text e = (e ≡ NotJson → IsNotJson text)
    × (e ≢ Memory → e ≢ NotJson → IsDocumentFault text e)

-- the same, as C is told it
abbrev pub IsTableFault : List ℕ → RumpadolFault → Type 0
IsTableFault text f = (e : TableFault) × (f ≡ table_fault e) × IsTextFault text e
