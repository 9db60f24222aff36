-- The notes that an acquirer can have written.
use Rattle.std.specs.Prelude.{◌≡◌, ◌<◌, List, [], ◌∷◌, length, Ok}
use Rattle.iso_order.specs.declared.act.Act.TheVariants.{Debit}
use Rattle.iso_order.specs.declared.act.Money.{Money}
use Rattle.iso_order.specs.Order.{Instruction}
use Rattle.iso_acquirer.specs.declared.slot.Slot.{Slot}
use Rattle.iso_acquirer.specs.Acquirer.{Party, debit_of, timeout}
use Rattle.iso_restarts.specs.declared.note.Note.{Note}
use Rattle.iso_restarts.specs.declared.note.Note.TheVariants.{Begun, TimedOut, Told}
use Rattle.iso_restarts.specs.Diary.{slots_noted}

-- the acquirer once that happened to it
abbrev pub party_noted : Party → Note → Party
party_noted p n = record { id = p.id; slots = slots_noted p.slots n }

-- the order is the debit that the acquirer begins next
pub record IsNext (p : Party) (o : Instruction) : Type 0 where
  pub money : Money
  pub asks : o.act ≡ Debit money
  pub left : length p.slots < 999999
  pub same : o ≡ debit_of p money.pan money.amount money.currency o.key.sent

-- that can happen to the acquirer: a payment is the next one, and a time-out isn't refused
abbrev pub CanNote : Party → Note → Type 0
CanNote p (Begun o) = IsNext p o
CanNote p (TimedOut stan) = (asked : Instruction × List Slot) × (timeout p.slots stan ≡ Ok asked)
CanNote p (Told key code) = Unit {0}

-- an acquirer can have written these notes
abbrev pub CanBeWritten : Party → List Note → Type 0
CanBeWritten p [] = Unit {0}
CanBeWritten p (n ∷ ns) = CanNote p n × CanBeWritten (party_noted p n) ns
