-- The orders of an acquirer, as a driver has them by trace number.
-- Inner: bodies and proofs cite it, and no public clause does but by `IsDriving`.
use Rattle.std.specs.Prelude.{◌≡◌, ◌≤◌, ◌+◌, ◌==◌, ◌||◌, ℕ, List, [], ◌∷◌, length, map, Option, Some, None, if◌then◌else◌}
use Rattle.iso_order.specs.Codes.{approved, duplicate_transmission, system_malfunction}
use Rattle.iso_acquirer.specs.declared.slot.Slot.{Slot}
use Rattle.iso_acquirer.specs.declared.slot.Role.{Role as Part}
use Rattle.iso_acquirer.specs.declared.slot.Role.TheVariants as part
use Rattle.iso_acquirer.specs.declared.state.State.{State}
use Rattle.iso_acquirer.specs.declared.state.State.TheVariants.{Waiting, Reversing, Approved, Declined, Reversed}
use Rattle.iso_acquirer.specs.Acquirer.{state_at_stage}
pub use Rattle.iso_drive.specs.Entries.{debit_in}
use Rattle.iso_drive.specs.declared.entry.Entry.{Entry}
use Rattle.iso_drive.specs.declared.heard.Heard.{Heard}
use Rattle.iso_drive.specs.declared.heard.Heard.TheVariants.{Closed, Known}
use Rattle.iso_drive.specs.declared.made.Made.{Made}
use Rattle.iso_drive.specs.declared.made.Role.{Role}
use Rattle.iso_drive.specs.declared.made.Role.TheVariants.{Payment, Reversal}

-- what an order is to the driver: a payment and its state, or a reversal
abbrev pub role_of : Part → Role
role_of (part.Transaction stage) = Payment (state_at_stage stage)
role_of (part.Reversal stan) = Reversal stan

-- an order of the acquirer, as the driver has it
abbrev pub made_of : Slot → Made
made_of s = record { key = s.order.key; debit = debit_in s.order.act; role = role_of s.role }

-- the trace number of the transaction that a reversal takes back
abbrev pub reversed_by : Role → Option ℕ
reversed_by (Payment state) = None
reversed_by (Reversal stan) = Some stan

-- an order that the driver has, as it is told to others
abbrev pub entry_by : Made → Entry
entry_by m = record { key = m.key; debit = m.debit; reverses = reversed_by m.role }

-- the orders have the trace numbers from n on
abbrev pub AreInRow : ℕ → List Slot → Type 0
AreInRow n [] = Unit {0}
AreInRow n (s ∷ ss) = (s.order.key.stan ≡ n) × AreInRow (n + 1) ss

-- these are the acquirer's orders, at the places of their trace numbers
pub record IsTabled (made : List Made) (slots : List Slot) : Type 0 where
  pub few : length slots ≤ 999999
  pub in_row : AreInRow 1 slots
  pub same : made ≡ map made_of slots

-- the state in which an answer closes a transaction, if it does: an answer to its own order, and one to its reversal
abbrev pub own_end : State → ℕ → Option State
own_end (Waiting n) code =
    if code == approved then Some Approved
    else (if (code == duplicate_transmission) || (code == system_malfunction) then None
    else Some (Declined code))
own_end Reversing code = None
own_end Approved code = None
own_end (Declined c) code = None
own_end Reversed code = None

-- the state in which an answer to its reversal closes a transaction, if it does
abbrev pub undo_end : State → ℕ → Option State
undo_end (Waiting n) code = None
undo_end Reversing code = if code == 0 then Some Reversed else None
undo_end Approved code = None
undo_end (Declined c) code = None
undo_end Reversed code = None

-- the same by a role: only a payment is closed
abbrev pub undo_end_in : Role → ℕ → Option State
undo_end_in (Payment state) code = undo_end state code
undo_end_in (Reversal stan) code = None

-- the same of the order that was made, if one was
abbrev pub undo_end_at : Option Made → ℕ → Option State
undo_end_at None code = None
undo_end_at (Some m) code = undo_end_in m.role code

-- what an answer came to that closes the transaction of that trace number in that state, or doesn't
abbrev pub told_by : ℕ → Option State → Heard
told_by stan (Some state) = Closed stan state
told_by stan None = Known
