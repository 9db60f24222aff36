-- An acquirer that is driven by the clock.
use Rattle.std.specs.Prelude.{◌≡◌, ◌≤◌, ℕ, Bool, true, false, max, List, [], ◌∷◌, ◌++◌, length, take, drop, Result, Err, is_err}
use Rattle.std.specs.List.{AllByRecursion}
use Rattle.iso_order.specs.declared.key.TxKey.{TxKey}
use Rattle.iso_order.specs.Order.{Instruction}
use Rattle.iso_acquirer.specs.declared.slot.Slot.{Slot}
use Rattle.iso_restarts.specs.declared.note.Note.{Note}
use Rattle.iso_restarts.specs.declared.durable.Fault.{Fault}
use Rattle.iso_restarts.specs.declared.durable.Fault.TheVariants as fault
use Rattle.iso_restarts.specs.Diary.{Diary, MayLeave, in_memory, begins, times_out, hears, keeps}
use Rattle.iso_restarts.specs.Durable.{diary_of, IsConsistent}
use Rattle.iso_drive.specs.declared.driver.Driver.{Driver}
use Rattle.iso_waits.specs.declared.due.Due.{Due}
use Rattle.iso_drive.specs.declared.heard.Heard.{Heard}
use Rattle.iso_drive.specs.declared.heard.Heard.TheVariants.{Closed, Known, Foreign}
use Rattle.iso_waits.specs.Waits.{moment_after, due_by, due_later, again, without, AreInTime}
use Rattle.iso_drive.specs.Board.{IsBoard}

-- a driver as contracts see it: its acquirer's notes, the open transactions in the order in which they become due, how
-- long it waits for an answer, and the latest moment that it was told, in milliseconds
pub record Driving : Type 0 where
  pub diary : Diary
  pub waiting : List Due
  pub patience : ℕ
  pub clock : ℕ

-- what its acquirer holds, by trace number
abbrev pub slots_in : Driving → List Slot
slots_in d = (in_memory d.diary).slots

-- ---- what happens to it

-- it is told a moment; one before the latest counts as the latest
abbrev pub at_moment : ℕ → Driving → Driving
at_moment now d =
    record { diary = d.diary; waiting = d.waiting; patience = d.patience; clock = max d.clock now }

-- when what happens now is due
abbrev pub next_due : Driving → ℕ
next_due d = moment_after d.clock d.patience

-- a purchase begins by that order, and waits for its answer
abbrev pub begins_now : Driving → Instruction → Driving
begins_now d o = record {
  diary = begins d.diary o;
  waiting = d.waiting ++ record { stan = o.key.stan; at = next_due d } ∷ [];
  patience = d.patience;
  clock = d.clock;
}

-- no answer came in time to these: each is timed out, in their order
abbrev pub times_out_all : Diary → List Due → Diary
times_out_all d [] = d
times_out_all d (t ∷ ts) = times_out_all (times_out d t.stan) ts

-- the first so many that wait are timed out, and wait again
abbrev pub wakes_first : ℕ → Driving → Driving
wakes_first n d = record {
  diary = times_out_all d.diary (take n d.waiting);
  waiting = drop n d.waiting ++ again (next_due d) (take n d.waiting);
  patience = d.patience;
  clock = d.clock;
}

-- those that are due are timed out, and wait again; no other is
abbrev pub wakes : Driving → Driving
wakes d = record {
  diary = times_out_all d.diary (due_by d.clock d.waiting);
  waiting = due_later d.clock d.waiting ++ again (next_due d) (due_by d.clock d.waiting);
  patience = d.patience;
  clock = d.clock;
}

-- an answer that closes a transaction is noted, and it waits no longer; any other leaves all as it is
abbrev pub hears_new : Driving → TxKey → ℕ → Heard → Driving
hears_new d key code (Closed stan state) = record {
  diary = hears d.diary key code;
  waiting = without stan d.waiting;
  patience = d.patience;
  clock = d.clock;
}
hears_new d key code Known = d
hears_new d key code Foreign = d

-- its notes are synced
abbrev pub keeps_all : Driving → Driving
keeps_all d =
    record { diary = keeps d.diary; waiting = d.waiting; patience = d.patience; clock = d.clock }

-- ---- a driver over the log of its notes

-- the driver as contracts see it, with the notes that its log has
abbrev pub driving_of : {L : Type 0} → (L → List Note) → (L → List Note) → Driver L → Driving
driving_of synced pending d = record {
  diary = diary_of synced pending d.acquirer;
  waiting = d.board.waiting.items;
  patience = d.patience;
  clock = d.clock;
}

-- its log
abbrev pub log_of : {L : Type 0} → Driver L → L
log_of d = d.acquirer.log

-- its log failed
abbrev pub is_stopped : {L : Type 0} → Driver L → Bool
is_stopped d = d.acquirer.has_failed

-- its acquirer is what its notes make it; the driver has its orders, and each open transaction waits once, in time
pub record IsDriving
    {L : Type 0} (is_ready : L → Type 0) (synced pending : L → List Note)
    (d : Driver L) : Type 0 where
  pub consistent : IsConsistent is_ready synced pending d.acquirer
  pub own : d.id ≡ d.acquirer.acquirer.id
  pub board : IsBoard d.board (slots_in (driving_of synced pending d))
  pub in_time : AreInTime (next_due (driving_of synced pending d)) d.board.waiting.items

-- it goes on as before
pub record Remains
    {L : Type 0} (is_ready : L → Type 0) (synced pending : L → List Note)
    (old new : Driver L) : Type 0 where
  pub driving : IsDriving is_ready synced pending old → IsDriving is_ready synced pending new
  pub same : driving_of synced pending new ≡ driving_of synced pending old

-- after a failure of the log no call succeeds, and nothing else stops the driver
pub record Stops {T : Type 0} (old new : Bool) (result : Result T Fault) : Type 0 where
  pub before : old ≡ true → is_err result ≡ true
  pub after : is_err result ≡ false → new ≡ false
  pub log : result ≡ Err fault.Log → new ≡ true

-- some from the front of those that are due are timed out, and wait again
abbrev pub WakesSome : Driving → Driving → Type 0
WakesSome old new = (n : ℕ) × (n ≤ length (due_by old.clock old.waiting))
    × (new ≡ wakes_first n old)

-- a crash leaves these notes, when some of those that are due were timed out
abbrev pub MayLeaveSome : Driving → List Note → Type 0
MayLeaveSome old notes = (n : ℕ) × MayLeave (wakes_first n old).diary notes

-- it starts with these notes, at the first moment, and all that they leave open is due
pub record IsStarted (id : ℕ) (notes : List Note) (patience : ℕ) (d : Driving) : Type 0 where
  pub diary : d.diary ≡ record { id = id; synced = notes; pending = [] }
  pub due : AllByRecursion (λ t. t.at ≡ 0) d.waiting
  pub waits : d.patience ≡ patience
  pub begins : d.clock ≡ 0
