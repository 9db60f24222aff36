-- Which transactions of an acquirer are open.
use Rattle.std.specs.Prelude.{◌≡◌, ℕ, Bool, true, false, not, List, Option, Some, None}
use Rattle.iso_acquirer.specs.declared.slot.Slot.{Slot}
use Rattle.iso_acquirer.specs.declared.state.State.{State}
use Rattle.iso_acquirer.specs.Acquirer.{state_of}
use Rattle.iso_acquirer.specs.Agreement.{is_closed}

-- a transaction that is neither approved nor declined nor reversed
abbrev pub is_open : Option State → Bool
is_open None = false
is_open (Some state) = not (is_closed state)

-- whether the transaction of that trace number is open
abbrev pub is_open_at : List Slot → ℕ → Bool
is_open_at slots stan = is_open (state_of slots stan)

-- all transactions are closed
abbrev pub AreAllClosed : List Slot → Type 0
AreAllClosed slots =
    (stan : ℕ) (state : State) → state_of slots stan ≡ Some state → is_closed state ≡ true
