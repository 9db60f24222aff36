-- Which transactions to look at where both ends differ on an account.
use Rattle.std.specs.Prelude.{◌&&◌, ℕ, Bool, true, false, List, Option, Some, None, filter, map}
use Rattle.iso_order.specs.declared.act.Act.{Act}
use Rattle.iso_order.specs.declared.act.Act.TheVariants.{Debit, Credit, Inquiry, Undo, Complete}
use Rattle.iso_order.specs.declared.act.Money.{Money}
use Rattle.iso_order.specs.Pan.{AccountNumber}
use Rattle.iso_order.specs.Order.{same_pan}
use Rattle.iso_acquirer.specs.declared.slot.Slot.{Slot}
use Rattle.iso_acquirer.specs.declared.state.State.{State}
use Rattle.iso_acquirer.specs.declared.state.State.TheVariants.{Waiting, Reversing, Approved, Declined, Reversed}
use Rattle.iso_acquirer.specs.Acquirer.{state_in_role}
use Rattle.iso_drive.specs.Counts.{is_such, role_is}
use Rattle.iso_drive.specs.declared.made.Made.{Made}

-- no answer to the order itself decided it: it is open, or reversed
abbrev pub is_doubtful : State → Bool
is_doubtful (Waiting n) = true
is_doubtful Reversing = true
is_doubtful Approved = false
is_doubtful (Declined c) = false
is_doubtful Reversed = true

-- it takes from the account
abbrev pub takes_from : AccountNumber → Act → Bool
takes_from pan (Debit m) = same_pan m.pan pan
takes_from pan (Credit m) = false
takes_from pan (Inquiry m) = false
takes_from pan (Undo original left) = false
takes_from pan (Complete m hold) = false

-- a transaction on the account that no answer to its own order decided
abbrev pub is_doubtful_of : AccountNumber → Slot → Bool
is_doubtful_of pan s = is_such is_doubtful (state_in_role s.role) && takes_from pan s.order.act

-- the trace numbers of the account's transactions that no answer to their own orders decided
abbrev pub doubtful_of : AccountNumber → List Slot → List ℕ
doubtful_of pan slots = map (λ (s : Slot). s.order.key.stan) (filter (is_doubtful_of pan) slots)

-- ---- inner: the same of the orders as the driver has them

-- there is a debit, and it is of the account
abbrev pub debit_is_of : Option Money → AccountNumber → Bool
debit_is_of None pan = false
debit_is_of (Some m) pan = same_pan m.pan pan

-- a transaction on the account that no answer to its own order decided
abbrev pub made_is_doubtful : AccountNumber → Made → Bool
made_is_doubtful pan m = role_is is_doubtful m.role && debit_is_of m.debit pan

-- their trace numbers
abbrev pub doubtful_in : AccountNumber → List Made → List ℕ
doubtful_in pan made = map (λ (m : Made). m.key.stan) (filter (made_is_doubtful pan) made)
