-- An order of an acquirer, as it is told to others.
use Rattle.std.specs.Prelude.{ℕ, Option, Some, None}
use Rattle.iso_order.specs.declared.act.Act.{Act}
use Rattle.iso_order.specs.declared.act.Act.TheVariants.{Debit, Credit, Inquiry, Undo, Complete}
use Rattle.iso_order.specs.declared.act.Money.{Money}
use Rattle.iso_acquirer.specs.declared.slot.Slot.{Slot}
use Rattle.iso_acquirer.specs.declared.slot.Role.{Role as Part}
use Rattle.iso_acquirer.specs.declared.slot.Role.TheVariants as part
use Rattle.iso_drive.specs.declared.entry.Entry.{Entry}

-- what a debit takes
abbrev pub debit_in : Act → Option Money
debit_in (Debit m) = Some m
debit_in (Credit m) = None
debit_in (Inquiry m) = None
debit_in (Undo original left) = None
debit_in (Complete m hold) = None

-- the trace number of the transaction that a reversal takes back
abbrev pub reverses : Part → Option ℕ
reverses (part.Transaction stage) = None
reverses (part.Reversal stan) = Some stan

-- its key, what it takes from an account, and what it takes back
abbrev pub entry_of : Slot → Entry
entry_of s = record { key = s.order.key; debit = debit_in s.order.act; reverses = reverses s.role }
