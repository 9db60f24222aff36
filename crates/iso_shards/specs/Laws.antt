-- What holds of the shards of a whole.
use Rattle.std.specs.Prelude.{◌≡◌, ◌≤◌, ◌<◌, ℕ, Bool, true, false, if◌then◌else◌}
use Rattle.std.specs.Prelude.{None, List, [], ◌∷◌, ◌++◌, length, map, filter, Result, is_ok}
use Rattle.std.specs.List.{AllByRecursion}
use Rattle.iso_order.specs.declared.act.Act.TheVariants.{Debit, Undo, Complete}
use Rattle.iso_order.specs.declared.act.Money.{Money}
use Rattle.iso_order.specs.declared.key.TxKey.{TxKey}
use Rattle.iso_order.specs.Key.{class_digit}
use Rattle.iso_order.specs.Order.{Instruction}
use Rattle.iso_order.specs.Outcome.{Outcome, code_alone}
use Rattle.iso_order.specs.Pan.{AccountNumber}
use Rattle.iso_issuer.specs.declared.account.Account.{Account}
use Rattle.iso_issuer.specs.declared.effect.Side.TheVariants.{Held}
use Rattle.iso_issuer.specs.declared.fault.Refused.{Refused}
use Rattle.iso_issuer.specs.Account.{account_of}
use Rattle.iso_issuer.specs.Balance.{total, balance_on}
use Rattle.iso_issuer.specs.Books.{Books, journal, books_with, IsRun}
use Rattle.iso_issuer.specs.Decision.{answer_for}
use Rattle.iso_issuer.specs.Holds.{open_holds}
use Rattle.iso_issuer.specs.Journal.{firsts, is_entered, HasDistinctKeys}
use Rattle.iso_issuer.specs.Laws.{books_after}
use Rattle.iso_shards.specs.Shards.{account_named, is_sent, sent_to, accounts_in, IsShard}
use Rattle.iso_shards.specs.Shards.{KeysGoTogether, KeysNameOneAccount, is_own, concerning}
use Rattle.iso_shards.specs.Shards.{unplaced, unplaced_entry, unplaced_hold, unplaced_result}
use Rattle.iso_shards.specs.Shards.{results_in, numbers_of, accounts_of_all, AreShards}
use Rattle.iso_shards.specs.Shards.{KeysAreGivenOnce, WasTaken}

-- ---- the books of a shard

-- two books say the same of the accounts with these numbers: what is on each, what is held on it,
-- and by which holds, and of each order that names it the answer
pub record AgreeOn (own : AccountNumber → Bool) (one other : Books) : Type 0 where
  pub balances : (a : Account) → own a.pan ≡ true →
      balance_on (journal other) a ≡ balance_on (journal one) a
  pub held : (pan : AccountNumber) → own pan ≡ true →
      total Held pan (journal other) ≡ total Held pan (journal one)
  pub holds : (pan : AccountNumber) → own pan ≡ true →
      map unplaced_hold (open_holds (journal other) pan)
      ≡ map unplaced_hold (open_holds (journal one) pan)
  pub answers :
      map unplaced_entry (filter (λ e. is_own own e.order) (journal other))
      ≡ map unplaced_entry (filter (λ e. is_own own e.order) (journal one))

-- the books of the whole, looked at through one shard's accounts, are the books of the shard
abbrev pub BooksAreTheSame : Type 0
BooksAreTheSame =
    (own : AccountNumber → Bool) (whole shard : Books) → IsShard own whole shard →
    AgreeOn own whole shard

-- entry by entry, reversals too: those that are sent to the shard, with the same answers
abbrev pub EntriesAreTheSame : Type 0
EntriesAreTheSame =
    (own : AccountNumber → Bool) (whole shard : Books) → IsShard own whole shard →
    map unplaced_entry (journal shard)
    ≡ map unplaced_entry (filter (λ e. is_sent own e.order) (journal whole))

-- its balances are those of the whole that are on its accounts
abbrev pub BalancesAreTheSame : Type 0
BalancesAreTheSame =
    (own : AccountNumber → Bool) (whole shard : Books) → IsShard own whole shard →
    map (balance_on (journal shard)) shard.accounts
    ≡ filter (λ b. own b.account.pan) (map (balance_on (journal whole)) whole.accounts)

-- it finds its own accounts as the whole does, and no other
abbrev pub AccountsAreFound : Type 0
AccountsAreFound =
    (own : AccountNumber → Bool) (whole shard : Books) (pan : AccountNumber) →
    IsShard own whole shard →
    account_of shard.accounts pan
    ≡ (if own pan then account_of whole.accounts pan else None)

-- ---- as orders come

-- the books of these accounts before any order comes
abbrev pub unused : List Account → ℕ → Books
unused accounts limit = record { accounts = accounts; limit = limit; orders = [] }

-- at first
abbrev pub ShardsBegin : Type 0
ShardsBegin =
    (own : AccountNumber → Bool) (accounts : List Account) (limit its_limit : ℕ) →
    IsShard own (unused accounts limit) (unused (accounts_in own accounts) its_limit)

-- an order that is sent to the shard has the same answer there, and leaves it a shard of the whole
abbrev pub AnswersAreTheSame : Type 0
AnswersAreTheSame =
    (own : AccountNumber → Bool) (whole shard : Books) (o : Instruction) →
    IsShard own whole shard → is_sent own o ≡ true → KeysGoTogether own (whole.orders ++ o ∷ []) →
    (unplaced (answer_for shard.accounts (journal shard) o)
    ≡ unplaced (answer_for whole.accounts (journal whole) o))
    × IsShard own (books_with whole o) (books_with shard o)

-- an order that is sent elsewhere leaves the shard what it was, a shard of the whole
abbrev pub OthersChangeNothing : Type 0
OthersChangeNothing =
    (own : AccountNumber → Bool) (whole shard : Books) (o : Instruction) →
    IsShard own whole shard → is_sent own o ≡ false → HasDistinctKeys whole.orders →
    IsShard own (books_with whole o) shard

-- lists of orders: where the shard refuses the orders that the whole does, and no others, each
-- order has the same answer
abbrev pub RunsAreTheSame : Type 0
RunsAreTheSame =
    (own : AccountNumber → Bool) (whole shard new_whole new_shard : Books)
    (orders : List Instruction) (results its_results : List (Result Outcome Refused)) →
    IsShard own whole shard → HasDistinctKeys whole.orders →
    KeysGoTogether own (whole.orders ++ orders) →
    IsRun whole orders results new_whole →
    IsRun shard (sent_to own orders) its_results new_shard →
    map is_ok its_results ≡ map is_ok (results_in own orders results) →
    (map unplaced_result its_results ≡ map unplaced_result (results_in own orders results))
    × IsShard own new_whole new_shard

-- the books have room for all these orders
abbrev pub IsRoomForAll : Books → List Instruction → Type 0
IsRoomForAll b orders = length (firsts (b.orders ++ orders)) ≤ b.limit

-- the same of what is left, memory aside, where both have room: the whole may have any limit
abbrev pub HandledApart : Type 0
HandledApart =
    (own : AccountNumber → Bool) (whole shard : Books) (orders : List Instruction) →
    IsShard own whole shard → KeysGoTogether own (whole.orders ++ orders) →
    IsRoomForAll whole orders → IsRoomForAll shard (sent_to own orders) →
    IsShard own (books_after whole orders) (books_after shard (sent_to own orders))

-- so from the first order on: a shard that handled the orders that are sent to it has the balances
-- on its accounts that one issuer for all accounts has, which handled all orders
abbrev pub DaysAreTheSame : Type 0
DaysAreTheSame =
    (own : AccountNumber → Bool) (accounts : List Account) (limit its_limit : ℕ)
    (orders : List Instruction) → KeysGoTogether own orders →
    IsRoomForAll (unused accounts limit) orders →
    IsRoomForAll (unused (accounts_in own accounts) its_limit) (sent_to own orders) →
    let whole : Books = books_after (unused accounts limit) orders in
    let shard : Books =
    books_after (unused (accounts_in own accounts) its_limit) (sent_to own orders) in
    map (balance_on (journal shard)) shard.accounts
    ≡ filter (λ b. own b.account.pan) (map (balance_on (journal whole)) whole.accounts)

-- where orders with one key name one account, they go together, however the accounts are split
abbrev pub OneAccountGoesTogether : Type 0
OneAccountGoesTogether =
    (own : AccountNumber → Bool) (orders : List Instruction) → KeysNameOneAccount orders →
    KeysGoTogether own orders

-- ---- reversals

-- of two shards of one whole, both give one answer to a reversal
abbrev pub ReversalsAreTheSame : Type 0
ReversalsAreTheSame =
    (own others : AccountNumber → Bool) (whole shard other : Books) (o : Instruction) →
    IsShard own whole shard → IsShard others whole other → account_named o ≡ None →
    KeysGoTogether own (whole.orders ++ o ∷ []) → KeysGoTogether others (whole.orders ++ o ∷ []) →
    unplaced (answer_for other.accounts (journal other) o)
    ≡ unplaced (answer_for shard.accounts (journal shard) o)

-- it is 0, unless an order was entered under its key
abbrev pub ReversalsAreGranted : Type 0
ReversalsAreGranted =
    (b : Books) (o : Instruction) → account_named o ≡ None → is_entered b.orders o.key ≡ false →
    unplaced (answer_for b.accounts (journal b) o) ≡ code_alone 0

-- a reversal of what isn't there leaves every account as it was
abbrev pub StraysChangeNothing : Type 0
StraysChangeNothing =
    (b : Books) (key original : TxKey) (left : ℕ) →
    HasDistinctKeys b.orders → is_entered b.orders original ≡ false →
    AgreeOn (λ pan. true) b (books_with b (record { key = key; act = Undo original left }))

-- books with the same orders that concern the shard agree on its accounts: the reversals of what
-- isn't there may stand anywhere, in any order, or be left out
abbrev pub StraysStandAnywhere : Type 0
StraysStandAnywhere =
    (own : AccountNumber → Bool) (one other : Books) →
    other.accounts ≡ one.accounts → concerning own other.orders ≡ concerning own one.orders →
    AgreeOn own one other

-- ---- any shards

-- Books of all the shards' accounts, with room for orders that shards took, no two with one key.
-- All that concerns a shard is among them, in the order in which the shard took it; and on its
-- accounts the books agree with the shard
pub record IsWholeOf (shard_of : AccountNumber → ℕ) (count : ℕ) (shards : ℕ → Books)
    (whole : Books) : Type 0 where
  pub accounts : whole.accounts ≡ accounts_of_all count shards
  pub room : length whole.orders ≤ whole.limit
  pub once : HasDistinctKeys whole.orders
  pub taken : AllByRecursion (WasTaken count shards) whole.orders
  pub concerned : (n : ℕ) → n < count →
      concerning (numbers_of shard_of n) whole.orders
      ≡ concerning (numbers_of shard_of n) (shards n).orders
  pub agree : (n : ℕ) → n < count → AgreeOn (numbers_of shard_of n) whole (shards n)

-- there is such a whole, whatever orders the shards took, and in whatever order reversals came to
-- each of them
abbrev pub ShardsHaveAWhole : Type 0
ShardsHaveAWhole =
    (shard_of : AccountNumber → ℕ) (count : ℕ) (shards : ℕ → Books) →
    AreShards shard_of count shards → KeysAreGivenOnce count shards →
    (whole : Books) × IsWholeOf shard_of count shards whole

-- ---- completions

-- it is answered as the debit, leaves the balances that this leaves, and ends no hold
pub record IsAsDebit (b : Books) (completion debit : Instruction) : Type 0 where
  pub answer :
      answer_for b.accounts (journal b) completion ≡ answer_for b.accounts (journal b) debit
  pub balances : (a : Account) →
      balance_on (journal (books_with b completion)) a ≡ balance_on (journal (books_with b debit)) a
  pub held : (pan : AccountNumber) →
      total Held pan (journal (books_with b completion)) ≡ total Held pan (journal b)

-- a completion of a hold that isn't there is what a debit under its key would be; it is of class 2
abbrev pub StrayCompletionsAreDebits : Type 0
StrayCompletionsAreDebits =
    (b : Books) (key hold : TxKey) (m : Money) →
    HasDistinctKeys b.orders → class_digit key ≡ 2 →
    is_entered b.orders key ≡ false → is_entered b.orders hold ≡ false →
    IsAsDebit b (record { key = key; act = Complete m hold }) (record { key = key; act = Debit m })
