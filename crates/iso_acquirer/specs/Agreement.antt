-- What both ends agree on.
use Rattle.std.specs.Prelude.{◌≡◌, ℕ, Bool, true, false, List, Option, Some, None, sum_by, pos, ◌-ℤ◌, if◌then◌else◌}
use Rattle.std.specs.List.{AllByRecursion}
use Rattle.iso_order.specs.declared.act.Act.{Act}
use Rattle.iso_order.specs.declared.act.Act.TheVariants.{Debit, Credit, Inquiry, Undo, Complete}
use Rattle.iso_order.specs.Pan.{AccountNumber}
use Rattle.iso_order.specs.Order.{Instruction, same_pan}
use Rattle.iso_issuer.specs.declared.account.Account.{Account}
use Rattle.iso_issuer.specs.declared.journal.Entry.{Entry}
use Rattle.iso_issuer.specs.Journal.{entry_at, is_standing}
use Rattle.iso_issuer.specs.Balance.{ledger, available}
use Rattle.iso_issuer.specs.Books.{journal}
use Rattle.iso_issuer.specs.StandingLaws.{NeverStands}
use Rattle.iso_acquirer.specs.declared.slot.Slot.{Slot}
use Rattle.iso_acquirer.specs.declared.state.State.{State}
use Rattle.iso_acquirer.specs.declared.state.State.TheVariants.{Waiting, Reversing, Approved, Declined, Reversed}
use Rattle.iso_acquirer.specs.Acquirer.{order_at, state_in_role, state_of}
use Rattle.iso_acquirer.specs.World.{World}

-- ---- each transaction

-- the entry of its key is of this order, and stands
pub record StandsIn (entries : List Entry) (o : Instruction) : Type 0 where
  pub entry : Entry
  pub found : entry_at entries o.key ≡ Some entry
  pub same : entry.order ≡ o
  pub counts : is_standing entries entry ≡ true

-- what the acquirer holds as approved is entered and stands;
-- what it holds as declined or reversed doesn't stand in any journal that goes on from here
abbrev pub AgreesIn : World → Instruction → State → Type 0
AgreesIn w o (Waiting n) = Unit {0}
AgreesIn w o Reversing = Unit {0}
AgreesIn w o Approved = StandsIn (journal w.issuer) o
AgreesIn w o (Declined c) = NeverStands w.issuer.accounts w.issuer.orders o.key
AgreesIn w o Reversed = NeverStands w.issuer.accounts w.issuer.orders o.key

-- both ends agree on each transaction
abbrev pub BothAgree : World → Type 0
BothAgree w =
    (stan : ℕ) (o : Instruction) (state : State) →
    order_at w.acquirer.slots stan ≡ Some o → state_of w.acquirer.slots stan ≡ Some state →
    AgreesIn w o state

-- ---- what is closed

-- approved, declined or reversed
abbrev pub is_closed : State → Bool
is_closed (Waiting n) = false
is_closed Reversing = false
is_closed Approved = true
is_closed (Declined c) = true
is_closed Reversed = true

-- a transaction that is closed stays in its state
abbrev pub StaysClosed : World → World → Type 0
StaysClosed old new =
    (stan : ℕ) (state : State) →
    state_of old.acquirer.slots stan ≡ Some state → is_closed state ≡ true →
    state_of new.acquirer.slots stan ≡ Some state

-- ---- the books

-- the amount of a debit of the account, else 0
abbrev pub debit_amount : AccountNumber → Act → ℕ
debit_amount pan (Debit m) = if same_pan m.pan pan then m.amount else 0
debit_amount pan (Credit m) = 0
debit_amount pan (Inquiry m) = 0
debit_amount pan (Undo original left) = 0
debit_amount pan (Complete m hold) = 0

-- there is a transaction, and it was granted
abbrev pub is_state_approved : Option State → Bool
is_state_approved (Some Approved) = true
is_state_approved (Some (Waiting n)) = false
is_state_approved (Some Reversing) = false
is_state_approved (Some (Declined c)) = false
is_state_approved (Some Reversed) = false
is_state_approved None = false

-- the amounts of the approved debits of the account, added up
abbrev pub approved_total : AccountNumber → List Slot → ℕ
approved_total pan slots = sum_by
    (λ s. if is_state_approved (state_in_role s.role) then debit_amount pan s.order.act else 0)
    slots

-- all transactions are closed, and no order of others is entered
pub record IsSettled (w : World) : Type 0 where
  pub closed : (stan : ℕ) (state : State) → state_of w.acquirer.slots stan ≡ Some state
      → is_closed state ≡ true
  pub no_others : AllByRecursion (λ o. o.key.acquirer ≡ w.acquirer.id) w.issuer.orders

-- then each account has its opening amount less the amounts of its approved debits, and all of it is available
abbrev pub BooksAgree : World → Type 0
BooksAgree w =
    IsSettled w → (a : Account) →
    (ledger (journal w.issuer) a ≡ a.opening -ℤ pos (approved_total a.pan w.acquirer.slots))
    × (available (journal w.issuer) a ≡ a.opening -ℤ pos (approved_total a.pan w.acquirer.slots))
