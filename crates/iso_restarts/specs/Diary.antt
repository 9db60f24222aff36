-- What an acquirer keeps over a crash: its notes, and all that follows from them.
use Rattle.std.specs.Prelude.{◌≡◌, ℕ, List, [], ◌∷◌, ◌++◌, take, length, nat_lt, Result, Ok, Err, if◌then◌else◌}
use Rattle.iso_order.specs.declared.key.TxKey.{TxKey}
use Rattle.iso_order.specs.Order.{Instruction}
use Rattle.iso_acquirer.specs.declared.fault.AcqFault.{AcqFault}
use Rattle.iso_acquirer.specs.declared.slot.Slot.{Slot}
use Rattle.iso_acquirer.specs.Acquirer.{Party, slots_with, timeout, slots_after_answer}
use Rattle.iso_restarts.specs.declared.note.Note.{Note}
use Rattle.iso_restarts.specs.declared.note.Note.TheVariants.{Begun, TimedOut, Told}

-- ---- what follows from notes

-- what is kept after a time-out, and the order to send then; nothing, where it is refused
abbrev pub slots_asked : List Slot → Result (Instruction × List Slot) AcqFault → List Slot
slots_asked slots (Ok asked) = asked.1
slots_asked slots (Err fault) = slots

-- the order to send after a time-out, if it isn't refused
abbrev pub orders_asked : Result (Instruction × List Slot) AcqFault → List Instruction
orders_asked (Ok asked) = asked.0 ∷ []
orders_asked (Err fault) = []

-- what an acquirer keeps by trace number once that happened
abbrev pub slots_noted : List Slot → Note → List Slot
slots_noted slots (Begun o) = slots_with slots o
slots_noted slots (TimedOut stan) = slots_asked slots (timeout slots stan)
slots_noted slots (Told key code) = slots_after_answer slots key code

-- what it sends when that happens
abbrev pub orders_noted : List Slot → Note → List Instruction
orders_noted slots (Begun o) = o ∷ []
orders_noted slots (TimedOut stan) = orders_asked (timeout slots stan)
orders_noted slots (Told key code) = []

-- what it keeps once all that happened
abbrev pub slots_after : List Slot → List Note → List Slot
slots_after slots [] = slots
slots_after slots (n ∷ ns) = slots_after (slots_noted slots n) ns

-- what it sends while all that happens
abbrev pub orders_after : List Slot → List Note → List Instruction
orders_after slots [] = []
orders_after slots (n ∷ ns) = orders_noted slots n ++ orders_after (slots_noted slots n) ns

-- the acquirer of that number to whom all that happened
abbrev pub party_after : ℕ → List Note → Party
party_after id notes = record { id = id; slots = slots_after [] notes }

-- ---- an acquirer over its notes

-- its number (element 32), its notes on the disk, and those behind them that wait for a sync
pub record Diary : Type 0 where
  pub id : ℕ
  pub synced : List Note
  pub pending : List Note

-- all notes that were written
abbrev pub written : Diary → List Note
written d = d.synced ++ d.pending

-- the acquirer that a start on the disk gives
abbrev pub on_disk : Diary → Party
on_disk d = party_after d.id d.synced

-- the acquirer as it runs
abbrev pub in_memory : Diary → Party
in_memory d = party_after d.id (written d)

-- the orders that wait for a sync before they are sent
abbrev pub unsent : Diary → List Instruction
unsent d = orders_after (on_disk d).slots d.pending

-- a crash keeps what is on the disk, and some of what is behind it, from the front
abbrev pub MayLeave : Diary → List Note → Type 0
MayLeave d notes = (n : ℕ) × (notes ≡ d.synced ++ take n d.pending)

-- ---- what happens to it

-- a note is written, and waits for a sync
abbrev pub writes : Diary → Note → Diary
writes d n = record { id = d.id; synced = d.synced; pending = d.pending ++ n ∷ [] }

-- a payment begins by that order, where a trace number is left
abbrev pub begins : Diary → Instruction → Diary
begins d o = if nat_lt (length (in_memory d).slots) 999999 then writes d (Begun o) else d

-- no answer came in time, where the transaction is open
abbrev pub times_out_by : Diary → ℕ → Result (Instruction × List Slot) AcqFault → Diary
times_out_by d stan (Ok asked) = writes d (TimedOut stan)
times_out_by d stan (Err fault) = d

-- no answer to the transaction of that trace number came in time
abbrev pub times_out : Diary → ℕ → Diary
times_out d stan = times_out_by d stan (timeout (in_memory d).slots stan)

-- an answer comes
abbrev pub hears : Diary → TxKey → ℕ → Diary
hears d key code = writes d (Told key code)

-- the notes are synced
abbrev pub keeps : Diary → Diary
keeps d = record { id = d.id; synced = written d; pending = [] }

-- a crash, and the start after it
abbrev pub crashes : ℕ → Diary → Diary
crashes n d = record { id = d.id; synced = d.synced ++ take n d.pending; pending = [] }
