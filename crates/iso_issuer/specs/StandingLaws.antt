-- Which entries of a journal stand, which never stand again, and when the order of the orders changes no balance.
use Rattle.std.specs.Prelude.{◌≡◌, ◌≢◌, ◌≤◌, ℕ, true, false, List, ◌++◌, count_by, Some, None, is_some}
use Rattle.std.specs.List.{AllByRecursion}
use Rattle.std.specs.List.Sorted.{IsPermutation}
use Rattle.iso_order.specs.declared.key.TxKey.{TxKey}
use Rattle.iso_order.specs.Key.{class_digit}
use Rattle.iso_order.specs.Order.{Instruction}
use Rattle.iso_issuer.specs.declared.account.Account.{Account}
use Rattle.iso_issuer.specs.declared.journal.Entry.{Entry}
use Rattle.iso_issuer.specs.Balance.{ledger, available}
use Rattle.iso_issuer.specs.Effect.{effect_of, effect_amount, is_key}
use Rattle.iso_issuer.specs.Journal.{is_entered, entry_at, undone_key, left_by, left_at, is_reversed, is_standing, weight, HasDistinctKeys}
use Rattle.iso_issuer.specs.Decision.{journal_of}

-- ---- which entries stand

-- an entry of class 2 that is granted, and that no entry reverses, stands
abbrev pub GrantedStands : Type 0
GrantedStands =
    (journal : List Entry) (e : Entry) →
    class_digit e.order.key ≡ 2 → is_some (effect_of e.order) ≡ true → e.answer.code ≡ 0 →
    left_at journal e.order.key ≡ None →
    is_standing journal e ≡ true

-- and counts for its whole amount
abbrev pub GrantedWeighsAll : Type 0
GrantedWeighsAll =
    (journal : List Entry) (e : Entry) →
    class_digit e.order.key ≡ 2 → is_some (effect_of e.order) ≡ true → e.answer.code ≡ 0 →
    left_at journal e.order.key ≡ None →
    weight journal e ≡ effect_amount (effect_of e.order)

-- an entry that wasn't granted doesn't stand
abbrev pub DeclinedFalls : Type 0
DeclinedFalls = (journal : List Entry) (e : Entry) → e.answer.code ≢ 0
    → is_standing journal e ≡ false

-- nor does one whose key is wholly reversed
abbrev pub ReversedFalls : Type 0
ReversedFalls = (journal : List Entry) (e : Entry) → is_reversed journal e.order.key ≡ true
    → is_standing journal e ≡ false

-- what doesn't stand counts for nothing
abbrev pub FallenWeighsNothing : Type 0
FallenWeighsNothing = (journal : List Entry) (e : Entry) → is_standing journal e ≡ false
    → weight journal e ≡ 0

-- ---- which keys are reversed

-- what the first reversal of a key leaves goes on to be left
abbrev pub ReversalsStay : Type 0
ReversalsStay = (journal more : List Entry) (key : TxKey) (left : ℕ)
    → left_at journal key ≡ Some left → left_at (journal ++ more) key ≡ Some left

-- so a key whose first reversal leaves nothing stays reversed
abbrev pub ReversedStays : Type 0
ReversedStays = (journal more : List Entry) (key : TxKey) → is_reversed journal key ≡ true
    → is_reversed (journal ++ more) key ≡ true

-- no entry reverses the key
abbrev pub NoneReverses : List Entry → TxKey → Type 0
NoneReverses journal key = AllByRecursion (λ r. is_key (undone_key r.order.act) key ≡ false) journal

-- a key that no entry reverses has no reversal
abbrev pub NoneIsNone : Type 0
NoneIsNone = (journal : List Entry) (key : TxKey) → NoneReverses journal key
    → left_at journal key ≡ None

-- and goes on to have none, where none of the later entries reverses it
abbrev pub NoneStaysNone : Type 0
NoneStaysNone = (journal more : List Entry) (key : TxKey) → left_at journal key ≡ None
    → NoneReverses more key → left_at (journal ++ more) key ≡ None

-- each entry that reverses the key leaves nothing
abbrev pub AllReverseWholly : List Entry → TxKey → Type 0
AllReverseWholly journal key = AllByRecursion
    (λ r. is_key (undone_key r.order.act) key ≡ true → left_by r.order.act ≡ 0) journal

-- where an entry reverses the key, and each that does leaves nothing, the key is wholly reversed
abbrev pub WhollyIsReversed : Type 0
WhollyIsReversed =
    (journal : List Entry) (key : TxKey) (at : TxKey) (r : Entry) →
    AllReverseWholly journal key → entry_at journal at ≡ Some r →
    is_key (undone_key r.order.act) key ≡ true → is_reversed journal key ≡ true

-- ---- what never stands again

-- in no list of distinct keys that begins with the orders does an entry of the key stand
abbrev pub NeverStands : List Account → List Instruction → TxKey → Type 0
NeverStands accounts orders key =
    (more : List Instruction) (e : Entry) → HasDistinctKeys (orders ++ more) →
    entry_at (journal_of accounts (orders ++ more)) key ≡ Some e →
    is_standing (journal_of accounts (orders ++ more)) e ≡ false

-- an entry of class 2 that doesn't stand; a hold of class 1 can stand again, when what completed it is reversed
abbrev pub StandsNoMore : Type 0
StandsNoMore =
    (accounts : List Account) (orders : List Instruction) (key : TxKey) (e : Entry) →
    class_digit key ≡ 2 → entry_at (journal_of accounts orders) key ≡ Some e →
    is_standing (journal_of accounts orders) e ≡ false →
    NeverStands accounts orders key

-- a key whose first reversal leaves nothing, of any class
abbrev pub ReversedNeverStands : Type 0
ReversedNeverStands =
    (accounts : List Account) (orders : List Instruction) (key : TxKey) →
    is_reversed (journal_of accounts orders) key ≡ true → NeverStands accounts orders key

-- the same of a key of which no order came yet: what comes after such a reversal
abbrev pub LateNeverStands : Type 0
LateNeverStands =
    (accounts : List Account) (orders : List Instruction) (key : TxKey) →
    is_reversed (journal_of accounts orders) key ≡ true → is_entered orders key ≡ false →
    NeverStands accounts orders key

-- ---- any order

-- no order is declined with 51, for want of the available amount
abbrev pub NoneShort : List Account → List Instruction → Type 0
NoneShort accounts orders = AllByRecursion (λ e. e.answer.code ≢ 51) (journal_of accounts orders)

-- no two orders reverse one key
abbrev pub IsReversedOnce : List Instruction → Type 0
IsReversedOnce orders = (key : TxKey) → count_by (λ o. is_key (undone_key o.act) key) orders ≤ 1

-- two lists of the same orders, in neither of which one is declined with 51, and no two of which reverse one key
pub record AreReordered (accounts : List Account) (xs ys : List Instruction) : Type 0 where
  pub same : IsPermutation xs ys
  pub once : IsReversedOnce xs
  pub enough : NoneShort accounts xs
  pub enough_too : NoneShort accounts ys

-- they leave every account the same ledger
abbrev pub LedgersAgree : Type 0
LedgersAgree =
    (accounts : List Account) (xs ys : List Instruction) (a : Account) → AreReordered accounts xs ys
    →
    ledger (journal_of accounts ys) a ≡ ledger (journal_of accounts xs) a

-- and the same available amount
abbrev pub AvailableAgree : Type 0
AvailableAgree =
    (accounts : List Account) (xs ys : List Instruction) (a : Account) → AreReordered accounts xs ys
    →
    available (journal_of accounts ys) a ≡ available (journal_of accounts xs) a
