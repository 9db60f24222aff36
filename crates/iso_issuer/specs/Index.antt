-- The index that the issuer answers from: what reversals leave, completions and sums, and how they stand for the journal.
-- Inner: bodies and proofs cite it, and no public clause does.
use Rattle.std.specs.Prelude.{◌≡◌, ◌≤◌, ℕ, ℤ, ◌+◌, ◌*◌, Bool, ◌&&◌, ◌==◌, if◌then◌else◌, List, [], ◌∷◌, length, sum_by, Option, None, Some, unwrap_or, All, map}
use Rattle.std.specs.List.{position_from}
use Rattle.std.specs.Ordering.{nat_cmp, ordering_then}
use Rattle.std.specs.declared.cmp.Ordering.{Ordering}
use Rattle.std.specs.BTreeMap as tree
use Rattle.std.specs.BTreeMap.{BTreeMap}
use Rattle.iso_order.specs.declared.key.TxKey.{TxKey}
use Rattle.iso_order.specs.Pan.{AccountNumber}
use Rattle.iso_order.specs.Key.{same_key}
use Rattle.iso_order.specs.Order.{same_pan, Instruction}
use Rattle.iso_issuer.specs.declared.account.Account.{Account}
use Rattle.iso_issuer.specs.declared.balances.Balance.{Balance}
use Rattle.iso_issuer.specs.declared.index.Index.{Index}
use Rattle.iso_issuer.specs.declared.journal.Entry.{Entry}
use Rattle.iso_issuer.specs.Decision.{journal_of}
use Rattle.iso_issuer.specs.Journal.{left_at, entry_at, is_counted, is_counted_with, HasDistinctKeys}
use Rattle.iso_issuer.specs.Effect.{effect_of, is_end_of}
use Rattle.iso_issuer.specs.declared.effect.Effect.{Effect}
use Rattle.iso_issuer.specs.declared.effect.Hold.{Hold}
use Rattle.iso_order.specs.declared.act.Act.{Act}
use Rattle.iso_order.specs.declared.act.Act.TheVariants.{Debit, Credit, Inquiry, Undo, Complete}
use Rattle.iso_issuer.specs.Balance.{balance_on}
use Rattle.iso_issuer.specs.Balances.{accounts_of, IsNear}

-- ---- keys

-- the order of keys, field by field, the time first
abbrev pub key_cmp : TxKey → TxKey → Ordering
key_cmp a b = ordering_then (nat_cmp a.sent b.sent) (ordering_then (nat_cmp a.stan b.stan)
    (ordering_then (nat_cmp a.base b.base) (nat_cmp a.acquirer b.acquirer)))

-- the place of the entry of this key, where there is one
abbrev pub place_of : List Entry → TxKey → Option ℕ
place_of entries key = position_from (λ e. same_key e.order.key key) 0 entries

-- the map has what the first reversal of each key leaves, and no other key
abbrev pub AreLefts : BTreeMap TxKey ℕ → List Entry → Type 0
AreLefts lefts entries = (key : TxKey) → tree.get key_cmp lefts key ≡ left_at entries key

-- ---- completions

-- the order of account numbers
abbrev pub pan_cmp : AccountNumber → AccountNumber → Ordering
pan_cmp a b = ordering_then (nat_cmp a.digits b.digits) (nat_cmp a.len b.len)

-- the order of holds: their key, then their account
abbrev pub hold_cmp : Hold → Hold → Ordering
hold_cmp a b = ordering_then (key_cmp a.key b.key) (pan_cmp a.pan b.pan)

-- one where it is so, else none
abbrev pub bit : Bool → ℕ
bit b = if b then 1 else 0

-- how many entries that count complete the hold of this key on this account
abbrev pub completions : List Entry → TxKey → AccountNumber → ℕ
completions entries key pan =
    sum_by (λ c. bit (is_counted entries c && is_end_of key pan (effect_of c.order))) entries

-- how many completions the map has for the hold of this key on this account
abbrev pub hold_count : BTreeMap Hold ℕ → TxKey → AccountNumber → ℕ
hold_count counts key pan = unwrap_or (tree.get hold_cmp counts (record { key = key; pan = pan })) 0

-- the map has that number for each hold, or nothing for 0
abbrev pub AreCounts : BTreeMap Hold ℕ → List Entry → Type 0
AreCounts counts entries = (key : TxKey) → (pan : AccountNumber)
    → hold_count counts key pan ≡ completions entries key pan

-- the hold that an effect ends, on its account
abbrev pub hold_on : AccountNumber → Option TxKey → Option Hold
hold_on pan None = None
hold_on pan (Some key) = Some (record { key = key; pan = pan })

-- the hold that an effect ends, if there is one
abbrev pub hold_by : Option Effect → Option Hold
hold_by None = None
hold_by (Some f) = hold_on f.pan f.ends

-- 1 for the hold of this key on this account
abbrev pub mark_at : Option Hold → TxKey → AccountNumber → ℕ
mark_at None key pan = 0
mark_at (Some h) key pan = bit (same_key h.key key && same_pan h.pan pan)

-- the hold that an entry completes
abbrev pub added_by : List Entry → Entry → Option Hold
added_by entries e = if is_counted entries e then hold_by (effect_of e.order) else None

-- the hold that an entry no longer completes, after a reversal that leaves so much
abbrev pub dropped_of_entry : Option ℕ → ℕ → Entry → Option Hold
dropped_of_entry (Some n) left r = None
dropped_of_entry None left r =
    if is_counted_with None r && (left == 0) then hold_by (effect_of r.order) else None

-- the same of the entry of this key, if there is one
abbrev pub dropped_at_key : List Entry → TxKey → ℕ → Option Entry → Option Hold
dropped_at_key entries key left None = None
dropped_at_key entries key left (Some r) = dropped_of_entry (left_at entries key) left r

-- the hold that is no longer completed once this is asked
abbrev pub dropped_by_act : List Entry → Act → Option Hold
dropped_by_act entries (Undo original left) =
    dropped_at_key entries original left (entry_at entries original)
dropped_by_act entries (Debit m) = None
dropped_by_act entries (Credit m) = None
dropped_by_act entries (Inquiry m) = None
dropped_by_act entries (Complete m hold) = None

-- ---- the index

-- the index of these entries
pub record IsIndexOf (index : Index) (entries : List Entry) : Type 0 where
  pub lefts : AreLefts index.lefts entries
  pub counts : AreCounts index.counts entries

-- two indexes find the same
pub record AnswersAlike (a b : Index) : Type 0 where
  pub lefts : (key : TxKey) → tree.get key_cmp a.lefts key ≡ tree.get key_cmp b.lefts key
  pub counts : (key : TxKey) (pan : AccountNumber)
      → hold_count a.counts key pan ≡ hold_count b.counts key pan

-- ---- the entries as they are kept

-- each order with its code, its place from 1 on, and the balance that is kept for its place from 0 on
abbrev pub entries_from : ℕ → List Instruction → List ℕ → BTreeMap ℕ ℤ → List Entry
entries_from place [] codes shown = []
entries_from place (o ∷ os) [] shown = []
entries_from place (o ∷ os) (c ∷ cs) shown =
    record {
      order = o;
      answer = record { code = c; seq = place + 1; shown = tree.get nat_cmp shown place };
    } ∷ entries_from (place + 1) os cs shown

-- a code of two digits for each order, few of them, no balance past them, and their index
pub record AreStored (orders : List Instruction) (codes : List ℕ) (shown : BTreeMap ℕ ℤ)
    (index : Index) : Type 0 where
  pub coded : length codes ≡ length orders
  pub two_digits : All (λ c. c ≤ 99) codes
  pub few : length orders ≤ 999999
  pub ended : (place : ℕ) → length orders ≤ place → tree.get nat_cmp shown place ≡ None
  pub indexed : IsIndexOf index (entries_from 0 orders codes shown)

-- ---- accounts

-- the place of the account of this number, where there is one
abbrev pub account_place : List Account → AccountNumber → Option ℕ
account_place accounts pan = position_from (λ a. same_pan a.pan pan) 0 accounts

-- the map has the place of each account's number, and no other number
abbrev pub AreAccountPlaces : BTreeMap AccountNumber ℕ → List Account → Type 0
AreAccountPlaces places accounts = (pan : AccountNumber)
    → tree.get pan_cmp places pan ≡ account_place accounts pan

-- ---- sums

-- each balance is that of its account after these entries
abbrev pub AreSums : List Entry → List Balance → Type 0
AreSums entries balances = balances ≡ map (balance_on entries) (accounts_of balances)

-- the balances are sums over the journal, and far from the ends of an i64
pub record IsSummed (entries : List Entry) (balances : List Balance) : Type 0 where
  pub sums : AreSums entries balances
  pub near : All (IsNear (3 * length entries)) balances

-- ---- the issuer

-- how the entries are kept: few, each decided on those before it, no two of one key
pub record IsKept (accounts : List Account) (limit : ℕ) (entries : List Entry) : Type 0 where
  pub few : length entries ≤ limit
  pub limited : limit ≤ 999999
  pub decided : entries ≡ journal_of accounts (map (λ e. e.order) entries)
  pub distinct : HasDistinctKeys (map (λ e. e.order) entries)
