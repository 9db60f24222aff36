-- The journal of a part of the orders, on a shard's accounts, beside that of all orders on all
-- accounts: the same answers, and the same balances.
use Rattle.std.proofs.Common.{◌≡◌, ℕ, Bool, true, false, cond, refl, ap, sym, ◌∙◌, subst}
use Rattle.std.proofs.Common.{List, [], ◌∷◌, ◌++◌}
use Rattle.std.specs.Prelude.{◌==◌, ◌&&◌, Option, Some, None, option_map, map, filter}
use Rattle.std.specs.Prelude.{ℤ, pos, ◌+ℤ◌, ◌-ℤ◌, int_lt, if◌then◌else◌}
use Rattle.std.specs.List.{AllByRecursion}
use Rattle.std.proofs.lemmas.List.{map-append, append-nil}
use Rattle.std.proofs.lemmas.List.Elements.{filter-append}
use Rattle.iso_order.specs.declared.act.Act.{Act}
use Rattle.iso_order.specs.declared.act.Act.TheVariants.{Debit, Credit, Inquiry, Undo, Complete}
use Rattle.iso_order.specs.declared.act.Money.{Money}
use Rattle.iso_order.specs.declared.key.TxKey.{TxKey}
use Rattle.iso_order.specs.Key.{function_digit}
use Rattle.iso_order.specs.Order.{Instruction, same_pan, same_currency}
use Rattle.iso_order.specs.Outcome.{Outcome}
use Rattle.iso_order.specs.Pan.{AccountNumber}
use Rattle.iso_issuer.specs.declared.account.Account.{Account}
use Rattle.iso_issuer.specs.declared.balances.Balance.{Balance}
use Rattle.iso_issuer.specs.declared.effect.Effect.{Effect}
use Rattle.iso_issuer.specs.declared.effect.Side.{Side}
use Rattle.iso_issuer.specs.declared.effect.Side.TheVariants.{Credited, Debited, Held}
use Rattle.iso_issuer.specs.declared.journal.Entry.{Entry}
use Rattle.iso_issuer.specs.Account.{account_of}
use Rattle.iso_issuer.specs.Effect.{effect_of, is_drawn}
use Rattle.iso_issuer.specs.Journal.{left_at, is_nothing, is_reversed, smaller_of}
use Rattle.iso_issuer.specs.Balance.{total, ledger, available, balance_on}
use Rattle.iso_issuer.specs.Decision.{amount_code, account_code, money_code, code_of, shown_by}
use Rattle.iso_issuer.specs.Decision.{is_wide, new_answer, new_entry, entries_after, journal_of}
use Rattle.iso_issuer.specs.Holds.{open_holds}
use Rattle.iso_shards.specs.Shards.{is_sent, accounts_in}
use Rattle.iso_shards.specs.Shards.{unplaced, unplaced_entry, unplaced_hold}
use Rattle.iso_shards.proofs.Lists.{every}
use Rattle.iso_shards.proofs.Keys.{same_pan_is}
use Rattle.iso_shards.proofs.Places.{left_unplaced, total_unplaced, holds_unplaced}
use Rattle.iso_shards.proofs.Kept.{find_kept, AreUndosKept, IsKeptWith, AllKept}
use Rattle.iso_shards.proofs.Kept.{kept, left_kept, total_kept, holds_kept}

-- the accounts of the shard are found as they are in the whole
pub account_there : (own : AccountNumber → Bool) (accounts : List Account) (pan : AccountNumber)
    → own pan ≡ true → account_of (accounts_in own accounts) pan ≡ account_of accounts pan
account_there own accounts pan is =
    find_kept (λ (a : Account). own a.pan) (λ (a : Account). same_pan a.pan pan) accounts
    (every (λ (a : Account). same_pan a.pan pan ≡ true → own a.pan ≡ true) accounts
    (λ a h. ap own (same_pan_is a.pan pan h) ∙ is))

-- a journal that has those of the entries that are kept, but for their places
pub record IsSeen (own : AccountNumber → Bool) (keep : Instruction → Bool) (j seen : List Entry)
    : Type 0 where
  pub same : map unplaced_entry seen ≡ map unplaced_entry (kept keep j)
  pub all : AllKept own keep j

module _ (own : AccountNumber → Bool) (keep : Instruction → Bool) (j seen : List Entry)
    (is_seen : IsSeen own keep j seen) where
  pub left_seen : (key : TxKey) → AreUndosKept keep key → left_at seen key ≡ left_at j key
  left_seen key undos =
      sym (left_unplaced seen key)
      ∙ ap (λ (es : List Entry). left_at es key) is_seen.same
      ∙ left_unplaced (kept keep j) key
      ∙ left_kept keep j key undos

  pub total_seen : (side : Side) (pan : AccountNumber) → own pan ≡ true
      → total side pan seen ≡ total side pan j
  total_seen side pan is =
      sym (total_unplaced side pan seen)
      ∙ ap (λ (es : List Entry). total side pan es) is_seen.same
      ∙ total_unplaced side pan (kept keep j)
      ∙ total_kept own keep j is_seen.all side pan is

  pub holds_seen : (pan : AccountNumber) → own pan ≡ true
      → map unplaced_hold (open_holds seen pan) ≡ map unplaced_hold (open_holds j pan)
  holds_seen pan is =
      sym (holds_unplaced pan seen)
      ∙ ap (λ (es : List Entry). open_holds es pan) is_seen.same
      ∙ holds_unplaced pan (kept keep j)
      ∙ ap (map unplaced_hold) (holds_kept own keep j is_seen.all pan is)

  ledger_seen : (a : Account) → own a.pan ≡ true → ledger seen a ≡ ledger j a
  ledger_seen a is =
      ap (λ n. a.opening +ℤ pos n -ℤ pos (total Debited a.pan seen)) (total_seen Credited a.pan is)
      ∙ ap (λ n. a.opening +ℤ pos (total Credited a.pan j) -ℤ pos n) (total_seen Debited a.pan is)

  available_seen : (a : Account) → own a.pan ≡ true → available seen a ≡ available j a
  available_seen a is =
      ap (λ z. z -ℤ pos (total Held a.pan seen)) (ledger_seen a is)
      ∙ ap (λ n. ledger j a -ℤ pos n) (total_seen Held a.pan is)

  pub balance_seen : (a : Account) → own a.pan ≡ true → balance_on seen a ≡ balance_on j a
  balance_seen a is =
      ap (λ z. with_amounts z (available seen a)) (ledger_seen a is)
      ∙ ap (λ z. with_amounts (ledger j a) z) (available_seen a is)
    where
      with_amounts : ℤ → ℤ → Balance
      with_amounts l v = record { account = a; ledger = l; available = v }

  -- ---- how an order that is kept is answered

  amount_same : (key : TxKey) (f : Option Effect) (a : Account) → own a.pan ≡ true
      → AreUndosKept keep key → amount_code seen key f a ≡ amount_code j key f a
  amount_same key None a is undos =
      ap (λ z. if is_wide z then 96 else 0) (available_seen a is)
  amount_same key (Some f) a is undos =
      ap (λ z. short z (left_at seen key)) (available_seen a is)
      ∙ ap (short (available j a)) (left_seen key undos)
    where
      short : ℤ → Option ℕ → ℕ
      short z l =
          if is_drawn f.side && (function_digit key == 0) && int_lt z (pos (smaller_of f.amount l))
          then 51 else 0

  account_same : (o : Instruction) (m : Money) (f : Option Account)
      → ((a : Account) → f ≡ Some a → own a.pan ≡ true)
      → AreUndosKept keep o.key → account_code seen o m f ≡ account_code j o m f
  account_same o m None here undos = refl
  account_same o m (Some a) here undos =
      ap (λ c. if same_currency a.currency m.currency then c else 12)
      (amount_same o.key (effect_of o) a (here a refl) undos)

  module _ (accounts : List Account) where
    found_own : (m : Money) → own m.pan ≡ true → (a : Account)
        → account_of accounts m.pan ≡ Some a → own a.pan ≡ true
    found_own m is a h = by_list accounts h
      where
        by_list : (rows : List Account) → account_of rows m.pan ≡ Some a → own a.pan ≡ true
        by_list [] h = cc
        by_list (x ∷ xs) h = by_test (same_pan x.pan m.pan) refl h (by_list xs)
          where
            by_test : (b : Bool) → same_pan x.pan m.pan ≡ b
                → cond b (Some x) (account_of xs m.pan) ≡ Some a
                → (account_of xs m.pan ≡ Some a → own a.pan ≡ true) → own a.pan ≡ true
            by_test true t h rest =
                let one : x ≡ a = cc in
                subst (λ (y : Account). own y.pan ≡ true) one
                (ap own (same_pan_is x.pan m.pan t) ∙ is)
            by_test false t h rest = rest h

    money_same : (o : Instruction) (m : Money) → own m.pan ≡ true → AreUndosKept keep o.key
        → money_code (accounts_in own accounts) seen o (Some m)
        ≡ money_code accounts j o (Some m)
    money_same o m is undos =
        ap (λ l. cond (is_nothing l) 21
        (account_code seen o m (account_of (accounts_in own accounts) m.pan)))
        (left_seen o.key undos)
        ∙ ap (λ f. cond (is_reversed j o.key) 21 (account_code seen o m f))
        (account_there own accounts m.pan is)
        ∙ ap (λ c. cond (is_reversed j o.key) 21 c)
        (account_same o m (account_of accounts m.pan) (found_own m is) undos)

    code_same : (key : TxKey) (act : Act) → is_sent own (record { key = key; act = act }) ≡ true
        → IsKeptWith own keep (record { key = key; act = act })
        → code_of (accounts_in own accounts) seen (record { key = key; act = act })
        ≡ code_of accounts j (record { key = key; act = act })
    code_same key (Debit m) is with_it =
        money_same (record { key = key; act = Debit m }) m is (with_it.undos is)
    code_same key (Credit m) is with_it =
        money_same (record { key = key; act = Credit m }) m is (with_it.undos is)
    code_same key (Inquiry m) is with_it =
        money_same (record { key = key; act = Inquiry m }) m is (with_it.undos is)
    code_same key (Undo original left) is with_it = refl
    code_same key (Complete m hold) is with_it =
        money_same (record { key = key; act = Complete m hold }) m is (with_it.undos is)

    shown_same : (key : TxKey) (act : Act) → is_sent own (record { key = key; act = act }) ≡ true
        → shown_by (accounts_in own accounts) seen act ≡ shown_by accounts j act
    shown_same key (Debit m) is = refl
    shown_same key (Credit m) is = refl
    shown_same key (Inquiry m) is =
        ap (option_map (available seen)) (account_there own accounts m.pan is)
        ∙ by_found (account_of accounts m.pan) (found_own m is)
      where
        by_found : (f : Option Account) → ((a : Account) → f ≡ Some a → own a.pan ≡ true)
            → option_map (available seen) f ≡ option_map (available j) f
        by_found None here = refl
        by_found (Some a) here = ap Some (available_seen a (here a refl))
    shown_same key (Undo original left) is = refl
    shown_same key (Complete m hold) is = refl

    pub answer_same : (o : Instruction) → is_sent own o ≡ true → IsKeptWith own keep o
        → unplaced (new_answer (accounts_in own accounts) seen o)
        ≡ unplaced (new_answer accounts j o)
    answer_same o is with_it =
        ap (λ c. said c (shown_by (accounts_in own accounts) seen o.act))
        (code_same o.key o.act is with_it)
        ∙ ap (said (code_of accounts j o)) (shown_same o.key o.act is)
      where
        said : ℕ → Option ℤ → Outcome
        said c shown =
            record { code = c; seq = 0; shown = if c == 0 then shown else None }

-- ---- all orders

all_push : (own : AccountNumber → Bool) (keep : Instruction → Bool) (es : List Entry) (e : Entry)
    → AllKept own keep es → IsKeptWith own keep e.order → AllKept own keep (es ++ e ∷ [])
all_push own keep [] e all one = (one, tt)
all_push own keep (x ∷ xs) e all one = (all.0, all_push own keep xs e all.1 one)

module _ (own : AccountNumber → Bool) (keep : Instruction → Bool)
    (sent : (o : Instruction) → keep o ≡ true → is_sent own o ≡ true)
    (accounts : List Account) where
  -- one order more that isn't kept
  left_out : (j seen : List Entry) (o : Instruction) → IsSeen own keep j seen
      → IsKeptWith own keep o → keep o ≡ false
      → IsSeen own keep (j ++ new_entry accounts j o ∷ []) seen
  left_out j seen o is_seen with_it off = record {
    same =
        is_seen.same
        ∙ ap (map unplaced_entry) (sym (
        filter-append (λ (e : Entry). keep e.order) j (new_entry accounts j o ∷ [])
        ∙ ap (λ b. kept keep j ++ cond b (new_entry accounts j o ∷ []) []) off
        ∙ append-nil (kept keep j)));
    all = all_push own keep j (new_entry accounts j o) is_seen.all with_it;
  }

  -- one that is kept
  kept_too : (j seen : List Entry) (o : Instruction) → IsSeen own keep j seen
      → IsKeptWith own keep o → keep o ≡ true
      → IsSeen own keep (j ++ new_entry accounts j o ∷ [])
      (seen ++ new_entry (accounts_in own accounts) seen o ∷ [])
  kept_too j seen o is_seen with_it on = record {
    same =
        map-append unplaced_entry seen (new_entry (accounts_in own accounts) seen o ∷ [])
        ∙ ap (λ es. es ++ unplaced_entry (new_entry (accounts_in own accounts) seen o) ∷ [])
        is_seen.same
        ∙ ap (λ e. map unplaced_entry (kept keep j) ++ answered e ∷ [])
        (answer_same own keep j seen is_seen accounts o (sent o on) with_it)
        ∙ sym (map-append unplaced_entry (kept keep j) (new_entry accounts j o ∷ []))
        ∙ ap (map unplaced_entry) (sym (
        filter-append (λ (e : Entry). keep e.order) j (new_entry accounts j o ∷ [])
        ∙ ap (λ b. kept keep j ++ cond b (new_entry accounts j o ∷ []) []) on));
    all = all_push own keep j (new_entry accounts j o) is_seen.all with_it;
  }
    where
      answered : Outcome → Entry
      answered a = record { order = o; answer = a }

  grown : (j seen : List Entry) (os : List Instruction) → IsSeen own keep j seen
      → AllByRecursion (IsKeptWith own keep) os
      → IsSeen own keep (entries_after accounts j os)
      (entries_after (accounts_in own accounts) seen (filter keep os))
  grown j seen [] is_seen all = is_seen
  grown j seen (o ∷ os) is_seen all =
      by_test (keep o) refl
      (λ on. grown (j ++ new_entry accounts j o ∷ [])
      (seen ++ new_entry (accounts_in own accounts) seen o ∷ []) os
      (kept_too j seen o is_seen all.0 on) all.1)
      (λ off. grown (j ++ new_entry accounts j o ∷ []) seen os
      (left_out j seen o is_seen all.0 off) all.1)
    where
      by_test : (b : Bool) → keep o ≡ b
          → (keep o ≡ true
          → IsSeen own keep (entries_after accounts (j ++ new_entry accounts j o ∷ []) os)
          (entries_after (accounts_in own accounts)
          (seen ++ new_entry (accounts_in own accounts) seen o ∷ []) (filter keep os)))
          → (keep o ≡ false
          → IsSeen own keep (entries_after accounts (j ++ new_entry accounts j o ∷ []) os)
          (entries_after (accounts_in own accounts) seen (filter keep os)))
          → IsSeen own keep (entries_after accounts (j ++ new_entry accounts j o ∷ []) os)
          (entries_after (accounts_in own accounts) seen
          (cond b (o ∷ filter keep os) (filter keep os)))
      by_test true t on off = on t
      by_test false t on off = off t

  -- the journal of the orders that are kept is seen in that of all orders
  pub journal_seen : (os : List Instruction) → AllByRecursion (IsKeptWith own keep) os
      → IsSeen own keep (journal_of accounts os)
      (journal_of (accounts_in own accounts) (filter keep os))
  journal_seen os all = grown [] [] os (record { same = refl; all = tt }) all
