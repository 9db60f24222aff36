-- What holds of both ends, and of all that is in flight between them, after every list of events.
-- Inner: bodies and proofs cite it, and no public clause does.
use Rattle.std.specs.Prelude.{◌≡◌, ◌≢◌, ℕ, true, List, Option, Some, option_map}
use Rattle.std.specs.List.{AllByRecursion}
use Rattle.iso_order.specs.declared.key.TxKey.{TxKey}
use Rattle.iso_order.specs.declared.act.Act.TheVariants.{Debit, Undo}
use Rattle.iso_order.specs.declared.act.Money.{Money}
use Rattle.iso_order.specs.Outcome.{Outcome}
use Rattle.iso_order.specs.Order.{Instruction, is_valid}
use Rattle.iso_issuer.specs.declared.journal.Entry.{Entry}
use Rattle.iso_issuer.specs.Journal.{entry_at, is_reversed, HasDistinctKeys}
use Rattle.iso_issuer.specs.Books.{journal}
use Rattle.iso_acquirer.specs.declared.event.Given.{Given}
use Rattle.iso_acquirer.specs.declared.slot.Slot.{Slot}
use Rattle.iso_acquirer.specs.declared.slot.Role.{Role}
use Rattle.iso_acquirer.specs.declared.slot.Role.TheVariants.{Transaction, Reversal}
use Rattle.iso_acquirer.specs.declared.slot.Stage.{Stage}
use Rattle.iso_acquirer.specs.declared.slot.Stage.TheVariants.{Waiting, Reversing, Approved, Declined, Reversed}
use Rattle.iso_acquirer.specs.Acquirer.{slot_at, order_at, undo_of}
use Rattle.iso_acquirer.specs.Room.{AreNumbered}
use Rattle.iso_acquirer.specs.World.{World}

-- the kept answer of a key, and its code
abbrev pub answer_at : List Entry → TxKey → Option Outcome
answer_at entries key = option_map (λ e. e.answer) (entry_at entries key)

-- the response code that the issuer kept for a key
abbrev pub code_at : List Entry → TxKey → Option ℕ
code_at entries key = option_map (λ a. a.code) (answer_at entries key)

-- a transaction's stage, against the issuer's entries
abbrev pub IsStageOf : List Entry → TxKey → Stage → Type 0
IsStageOf entries key (Waiting n) = Unit {0}
IsStageOf entries key (Reversing n) = Unit {0}
IsStageOf entries key Approved = code_at entries key ≡ Some 0
IsStageOf entries key (Declined c) = (code_at entries key ≡ Some c) × (c ≢ 0)
IsStageOf entries key (Reversed n) = is_reversed entries key ≡ true

-- a transaction's order is a debit of class 2, and its reversal, where it has one, is made
pub record IsTransaction (entries : List Entry) (slots : List Slot) (o : Instruction)
    (stage : Stage) : Type 0 where
  pub base : o.key.base ≡ 200
  pub money : Money
  pub debit : o.act ≡ Debit money
  pub held : IsStageOf entries o.key stage
  pub undone : (u : Instruction) → undo_of o stage ≡ Some u → order_at slots u.key.stan ≡ Some u

-- a reversal is that of a transaction, and leaves nothing of it
pub record IsReversal (slots : List Slot) (stan : ℕ) (undo : Instruction) : Type 0 where
  pub original : Slot
  pub stage : Stage
  pub found : slot_at slots stan ≡ Some original
  pub transaction : original.role ≡ Transaction stage
  pub kept : undo_of original.order stage ≡ Some undo
  pub names : undo.act ≡ Undo original.order.key 0

-- the order is what its role says: a transaction's, or the reversal of one
abbrev pub IsRole : List Entry → List Slot → Instruction → Role → Type 0
IsRole entries slots o (Transaction stage) = IsTransaction entries slots o stage
IsRole entries slots o (Reversal stan) = IsReversal slots stan o

-- a kept order is of this acquirer, and what its role says
pub record IsSlot (id : ℕ) (entries : List Entry) (slots : List Slot) (s : Slot) : Type 0 where
  pub own : s.order.key.acquirer ≡ id
  pub role : IsRole entries slots s.order s.role

-- an entered order is valid, and one of this acquirer is what it made under that trace number
pub record IsKnown (id : ℕ) (slots : List Slot) (e : Entry) : Type 0 where
  pub valid : is_valid e.order ≡ true
  pub own : e.order.key.acquirer ≡ id → order_at slots e.order.key.stan ≡ Some e.order

-- trace numbers are fresh, each slot is as the entries say, what is entered and sent was made, what is given is kept
pub record IsAgreed (id : ℕ) (slots : List Slot) (sent : List Instruction) (given : List Given)
    (entries : List Entry) : Type 0 where
  pub numbered : AreNumbered 1 slots
  pub slots_hold : (n : ℕ) (s : Slot) → slot_at slots n ≡ Some s → IsSlot id entries slots s
  pub entries_known : AllByRecursion (IsKnown id slots) entries
  pub sent_known : AllByRecursion (λ o. order_at slots o.key.stan ≡ Some o) sent
  pub given_kept : AllByRecursion (λ g. answer_at entries g.key ≡ Some g.answer) given

-- acquirer and issuer agree, and no two orders of the issuer have one key
pub record IsSound (w : World) : Type 0 where
  pub agreed : IsAgreed w.acquirer.id w.acquirer.slots w.sent w.given (journal w.issuer)
  pub distinct : HasDistinctKeys w.issuer.orders
