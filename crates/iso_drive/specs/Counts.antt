-- How far the transactions of an acquirer got.
use Rattle.std.specs.Prelude.{◌==◌, ℕ, Bool, true, false, List, Option, Some, None, count_by}
use Rattle.iso_acquirer.specs.declared.slot.Slot.{Slot}
use Rattle.iso_acquirer.specs.declared.state.State.{State}
use Rattle.iso_acquirer.specs.declared.state.State.TheVariants.{Waiting, Reversing, Approved, Declined, Reversed}
use Rattle.iso_acquirer.specs.Acquirer.{state_in_role}
use Rattle.iso_drive.specs.declared.counts.Counts.{Counts}
use Rattle.iso_drive.specs.declared.made.Role.{Role}
use Rattle.iso_drive.specs.declared.made.Role.TheVariants.{Payment, Reversal}

-- no answer decided it, and no reversal of it was sent
abbrev pub is_waiting : State → Bool
is_waiting (Waiting n) = true
is_waiting Reversing = false
is_waiting Approved = false
is_waiting (Declined c) = false
is_waiting Reversed = false

-- its reversal was sent, and no answer granted it
abbrev pub is_reversing : State → Bool
is_reversing (Waiting n) = false
is_reversing Reversing = true
is_reversing Approved = false
is_reversing (Declined c) = false
is_reversing Reversed = false

-- it was granted
abbrev pub is_approved : State → Bool
is_approved (Waiting n) = false
is_approved Reversing = false
is_approved Approved = true
is_approved (Declined c) = false
is_approved Reversed = false

-- it was refused, with whatever code
abbrev pub is_declined : State → Bool
is_declined (Waiting n) = false
is_declined Reversing = false
is_declined Approved = false
is_declined (Declined c) = true
is_declined Reversed = false

-- it was refused with that code
abbrev pub is_declined_with : ℕ → State → Bool
is_declined_with code (Waiting n) = false
is_declined_with code Reversing = false
is_declined_with code Approved = false
is_declined_with code (Declined c) = c == code
is_declined_with code Reversed = false

-- its reversal was granted
abbrev pub is_reversed : State → Bool
is_reversed (Waiting n) = false
is_reversed Reversing = false
is_reversed Approved = false
is_reversed (Declined c) = false
is_reversed Reversed = true

-- an order as the driver has it is of a transaction in such a state
abbrev pub role_is : (State → Bool) → Role → Bool
role_is such (Payment state) = such state
role_is such (Reversal stan) = false

-- the slot is of a transaction in such a state
abbrev pub is_such : (State → Bool) → Option State → Bool
is_such such None = false
is_such such (Some state) = such state

-- how many transactions are in such a state
abbrev pub count_of : (State → Bool) → List Slot → ℕ
count_of such slots = count_by (λ s. is_such such (state_in_role s.role)) slots

-- how many transactions are in each state
abbrev pub counts_of : List Slot → Counts
counts_of slots = record {
  waiting = count_of is_waiting slots;
  reversing = count_of is_reversing slots;
  approved = count_of is_approved slots;
  declined = count_of is_declined slots;
  reversed = count_of is_reversed slots;
}
