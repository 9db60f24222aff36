-- What an answer comes to.
use Rattle.std.specs.Prelude.{◌≡◌, ℕ, Bool, true, false, List, Option, Some, None}
use Rattle.iso_order.specs.declared.key.TxKey.{TxKey}
use Rattle.iso_order.specs.Key.{same_key}
use Rattle.iso_acquirer.specs.declared.slot.Slot.{Slot}
use Rattle.iso_acquirer.specs.declared.state.State.{State}
use Rattle.iso_acquirer.specs.Acquirer.{slot_at, state_of, slots_after_answer}
use Rattle.iso_acquirer.specs.Agreement.{is_closed}
use Rattle.iso_drive.specs.declared.heard.Heard.{Heard}
use Rattle.iso_drive.specs.declared.heard.Heard.TheVariants.{Closed, Known, Foreign}
use Rattle.iso_drive.specs.Open.{is_open_at}

-- an order of that key was made
abbrev pub has_key : Option Slot → TxKey → Bool
has_key None key = false
has_key (Some s) key = same_key s.order.key key

-- an order of that key is among these
abbrev pub is_made : List Slot → TxKey → Bool
is_made slots key = has_key (slot_at slots key.stan) key

-- the answer closes the transaction of that trace number, which was open, in that state
pub record Closes (slots : List Slot) (key : TxKey) (code stan : ℕ) (state : State) : Type 0 where
  pub made : is_made slots key ≡ true
  pub was_open : is_open_at slots stan ≡ true
  pub now : state_of (slots_after_answer slots key code) stan ≡ Some state
  pub closed : is_closed state ≡ true

-- the answer changes nothing
abbrev pub ChangesNothing : List Slot → TxKey → ℕ → Type 0
ChangesNothing slots key code = slots_after_answer slots key code ≡ slots

-- an answer of that code to that key comes to that
abbrev pub ComesTo : List Slot → TxKey → ℕ → Heard → Type 0
ComesTo slots key code (Closed stan state) = Closes slots key code stan state
ComesTo slots key code Known = ChangesNothing slots key code × (is_made slots key ≡ true)
ComesTo slots key code Foreign = ChangesNothing slots key code × (is_made slots key ≡ false)
