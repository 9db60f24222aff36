-- A shard: a part of the accounts, with a journal of its own. What is sent to it, and what is
-- compared with the books of all accounts, the whole.
use Rattle.std.specs.Prelude.{◌≡◌, ◌<◌, ℕ, zero, suc, ◌==◌, Bool, true, false, ◌&&◌, ◌||◌}
use Rattle.std.specs.Prelude.{if◌then◌else◌, ◌++◌}
use Rattle.std.specs.Prelude.{Option, Some, None, option_map, List, [], ◌∷◌, filter, slice_get}
use Rattle.std.specs.Prelude.{Result, Ok, Err}
use Rattle.std.specs.List.{list_any, AllByRecursion}
use Rattle.iso_order.specs.Pan.{AccountNumber}
use Rattle.iso_order.specs.Order.{Instruction, money_of}
use Rattle.iso_order.specs.Outcome.{Outcome}
use Rattle.iso_issuer.specs.declared.account.Account.{Account}
use Rattle.iso_issuer.specs.declared.fault.Refused.{Refused}
use Rattle.iso_issuer.specs.declared.holds.OpenHold.{OpenHold}
use Rattle.iso_issuer.specs.declared.journal.Entry.{Entry}
use Rattle.iso_issuer.specs.Effect.{is_key}
use Rattle.iso_issuer.specs.Journal.{undone_key, HasDistinctKeys}
use Rattle.iso_issuer.specs.Books.{Books}

-- ---- what is sent to a shard, which has these account numbers as its own

-- the account that an order names; a reversal names none
abbrev pub account_named : Instruction → Option AccountNumber
account_named o = option_map (λ m. m.pan) (money_of o.act)

-- what names an account is sent to the shard that has it, and what names none to every shard
abbrev pub is_sent_by : (AccountNumber → Bool) → Option AccountNumber → Bool
is_sent_by own None = true
is_sent_by own (Some pan) = own pan

-- an order is sent to the shard
abbrev pub is_sent : (AccountNumber → Bool) → Instruction → Bool
is_sent own o = is_sent_by own (account_named o)

-- those of the orders that are sent to it, in their order
abbrev pub sent_to : (AccountNumber → Bool) → List Instruction → List Instruction
sent_to own orders = filter (is_sent own) orders

-- its accounts, in their order
abbrev pub accounts_in : (AccountNumber → Bool) → List Account → List Account
accounts_in own accounts = filter (λ a. own a.pan) accounts

-- Books of a shard of the whole: the shard's accounts, and the orders of the whole that are sent to
-- it, in their order. Its limit is its own
pub record IsShard (own : AccountNumber → Bool) (whole shard : Books) : Type 0 where
  pub accounts : shard.accounts ≡ accounts_in own whole.accounts
  pub orders : shard.orders ≡ sent_to own whole.orders

-- ---- keys

-- of orders with one key all are sent to the shard, or none
abbrev pub KeysGoTogether : (AccountNumber → Bool) → List Instruction → Type 0
KeysGoTogether own orders =
    (i j : ℕ) (o p : Instruction) →
    slice_get orders i ≡ Some o → slice_get orders j ≡ Some p → o.key ≡ p.key →
    is_sent own o ≡ is_sent own p

-- orders with one key name one account, or none of them names one
abbrev pub KeysNameOneAccount : List Instruction → Type 0
KeysNameOneAccount orders =
    (i j : ℕ) (o p : Instruction) →
    slice_get orders i ≡ Some o → slice_get orders j ≡ Some p → o.key ≡ p.key →
    account_named o ≡ account_named p

-- ---- what concerns a shard

-- an account of the shard
abbrev pub is_own_account : (AccountNumber → Bool) → Option AccountNumber → Bool
is_own_account own None = false
is_own_account own (Some pan) = own pan

-- an order names an account of the shard
abbrev pub is_own : (AccountNumber → Bool) → Instruction → Bool
is_own own o = is_own_account own (account_named o)

-- it reverses one of the orders that name an account of the shard
abbrev pub reverses_own : (AccountNumber → Bool) → List Instruction → Instruction → Bool
reverses_own own orders o = list_any (λ p. is_own own p && is_key (undone_key o.act) p.key) orders

-- either
abbrev pub is_concerning : (AccountNumber → Bool) → List Instruction → Instruction → Bool
is_concerning own orders o = is_own own o || reverses_own own orders o

-- those of the orders that concern the shard, in their order: no reversal of what isn't there
abbrev pub concerning : (AccountNumber → Bool) → List Instruction → List Instruction
concerning own orders = filter (is_concerning own orders) orders

-- ---- any shards, by a rule that tells the number of the shard of each account number

-- the account numbers of a shard
abbrev pub numbers_of : (AccountNumber → ℕ) → ℕ → AccountNumber → Bool
numbers_of shard_of n pan = shard_of pan == n

-- the accounts of so many shards
abbrev pub accounts_of_all : ℕ → (ℕ → Books) → List Account
accounts_of_all zero shards = []
accounts_of_all (suc n) shards = accounts_of_all n shards ++ (shards n).accounts

-- each of the shards has its own accounts alone, and took no two orders with one key
abbrev pub AreShards : (AccountNumber → ℕ) → ℕ → (ℕ → Books) → Type 0
AreShards shard_of count shards =
    (n : ℕ) → n < count →
    AllByRecursion (λ a. numbers_of shard_of n a.pan ≡ true) (shards n).accounts
    × HasDistinctKeys (shards n).orders

-- no acquirer gave a key twice: orders with one key are one order, whichever shards took them
abbrev pub KeysAreGivenOnce : ℕ → (ℕ → Books) → Type 0
KeysAreGivenOnce count shards =
    (m n i j : ℕ) (o p : Instruction) → m < count → n < count →
    slice_get (shards m).orders i ≡ Some o → slice_get (shards n).orders j ≡ Some p →
    o.key ≡ p.key → o ≡ p

-- one of the shards took the order
pub record WasTaken (count : ℕ) (shards : ℕ → Books) (o : Instruction) : Type 0 where
  pub by : ℕ
  pub within : by < count
  pub place : ℕ
  pub there : slice_get (shards by).orders place ≡ Some o

-- ---- what is compared: all but the places, since each journal counts its own

-- an answer without its place
abbrev pub unplaced : Outcome → Outcome
unplaced answer = record { code = answer.code; seq = 0; shown = answer.shown }

-- an order with its answer
abbrev pub unplaced_entry : Entry → Entry
unplaced_entry e = record { order = e.order; answer = unplaced e.answer }

-- an open hold, with what it still holds
abbrev pub unplaced_hold : OpenHold → OpenHold
unplaced_hold h = record { entry = unplaced_entry h.entry; amount = h.amount }

-- what was answered; none where an order was refused
abbrev pub unplaced_result : Result Outcome Refused → Option Outcome
unplaced_result (Ok answer) = Some (unplaced answer)
unplaced_result (Err refused) = None

-- the results of those of the orders that are sent to the shard
abbrev pub results_in : (AccountNumber → Bool) → List Instruction → List (Result Outcome Refused)
    → List (Result Outcome Refused)
results_in own (o ∷ os) (r ∷ rs) =
    if is_sent own o then r ∷ results_in own os rs else results_in own os rs
results_in own [] rs = []
results_in own (o ∷ os) [] = []
