-- What an order finds in the journal, before it is entered.
-- Inner: bodies and proofs cite it, and no public clause does.
use Rattle.std.specs.Prelude.{◌≡◌, ℕ, Bool, true, false, List, Option, Some, None, option_map, option_and_then}
use Rattle.std.specs.Option.{option_or}
use Rattle.iso_order.specs.declared.key.TxKey.{TxKey}
use Rattle.iso_order.specs.declared.act.Act.{Act}
use Rattle.iso_order.specs.declared.act.Act.TheVariants.{Debit, Credit, Inquiry, Undo, Complete}
use Rattle.iso_order.specs.Order.{Instruction, money_of}
use Rattle.iso_issuer.specs.declared.journal.Entry.{Entry}
use Rattle.iso_issuer.specs.declared.found.Touched.{Touched}
use Rattle.iso_issuer.specs.declared.found.Found.{Found}
use Rattle.iso_order.specs.declared.act.Money.{Money}
use Rattle.iso_issuer.specs.declared.balances.Balance.{Balance}
use Rattle.iso_issuer.specs.declared.balances.PlacedBalance.{PlacedBalance}
use Rattle.iso_issuer.specs.Balances.{accounts_of, balance_at}
use Rattle.iso_issuer.specs.Index.{account_place}
use Rattle.iso_issuer.specs.declared.effect.Effect.{Effect}
use Rattle.iso_issuer.specs.Effect.{effect_of}
use Rattle.iso_issuer.specs.Journal.{entry_at, undone_key, left_at, weight}

-- ---- what an order may change

-- the effect of an entry, where there is one
abbrev pub effect_at : Option Entry → Option Effect
effect_at None = None
effect_at (Some e) = effect_of e.order

-- its weight
abbrev pub weight_at : List Entry → Option Entry → ℕ
weight_at journal None = 0
weight_at journal (Some e) = weight journal e

-- the key of the hold that an effect ends
abbrev pub ended_by : Option Effect → Option TxKey
ended_by None = None
ended_by (Some f) = f.ends

-- the entry that an order reverses, where there is one
abbrev pub reversed_by : List Entry → Instruction → Option Entry
reversed_by journal o = option_and_then (entry_at journal) (undone_key o.act)

-- the key of the hold that an order ends, or that it gives back by reversing what ended it
abbrev pub ended_key : List Entry → Instruction → Option TxKey
ended_key journal o =
    option_or (ended_by (effect_of o)) (ended_by (effect_at (reversed_by journal o)))

-- the hold itself, where it is there
abbrev pub released_by : List Entry → Instruction → Option Entry
released_by journal o = option_and_then (entry_at journal) (ended_key journal o)

-- ---- what is found of it

-- an entry, what the first reversal of it leaves, and its weight
abbrev pub touched_at : List Entry → Option Entry → Option Touched
touched_at journal None = None
touched_at journal (Some e) =
    Some (record { entry = e; left = left_at journal e.order.key; weight = weight journal e })

-- it may reverse an entry or end a hold
abbrev pub is_of_earlier : Act → Bool
is_of_earlier (Undo original left) = true
is_of_earlier (Complete m hold) = true
is_of_earlier (Debit m) = false
is_of_earlier (Credit m) = false
is_of_earlier (Inquiry m) = false

-- what the first reversal of its key leaves, the entry that it reverses, and the hold that it ends or gives back
pub record IsFoundFor (journal : List Entry) (o : Instruction) (found : Found) : Type 0 where
  pub own : undone_key o.act ≡ None → found.left ≡ left_at journal o.key
  pub reversed : found.reversed ≡ touched_at journal (reversed_by journal o)
  pub released : found.released ≡ touched_at journal (released_by journal o)

-- the entry that is touched
abbrev pub entry_in : Option Touched → Option Entry
entry_in t = option_map (λ t. t.entry) t

-- its weight before
abbrev pub weight_in : Option Touched → ℕ
weight_in None = 0
weight_in (Some t) = t.weight

-- what an act leaves of the entry that it reverses
abbrev pub amount_left : Act → Option ℕ
amount_left (Undo original left) = Some left
amount_left (Debit m) = None
amount_left (Credit m) = None
amount_left (Inquiry m) = None
amount_left (Complete m hold) = None

-- what was found, once the order is entered: of what it reverses it leaves so much, unless an earlier one did
pub record WasFoundFor (journal : List Entry) (o : Instruction) (found : Found) : Type 0 where
  pub own : undone_key o.act ≡ None → found.left ≡ left_at journal o.key
  pub reversed : (t : Touched) → found.reversed ≡ Some t
      → option_or t.left (amount_left o.act) ≡ left_at journal t.entry.order.key
  pub released : (t : Touched) → found.released ≡ Some t
      → t.left ≡ left_at journal t.entry.order.key

-- the balance of the account that an order is about, and its place
pub record IsBalanceFor (balances : List Balance) (o : Instruction)
    (placed : Option PlacedBalance) : Type 0 where
  pub place : (m : Money) → Some m ≡ money_of o.act
      → option_map (λ p. p.place) placed ≡ account_place (accounts_of balances) m.pan
  pub balance : (m : Money) → Some m ≡ money_of o.act
      → option_map (λ p. p.balance) placed ≡ balance_at balances m.pan
