-- What a journal that is seen in another one says of the shard's accounts.
use Rattle.std.proofs.Common.{◌≡◌, Bool, true, false, cond, refl, ap, sym, ◌∙◌, subst}
use Rattle.std.proofs.Common.{List, [], ◌∷◌}
use Rattle.std.specs.Prelude.{Some, None, map, filter, if◌then◌else◌}
use Rattle.std.specs.List.{AllByRecursion}
use Rattle.iso_order.specs.declared.act.Act.{Act}
use Rattle.iso_order.specs.declared.act.Act.TheVariants.{Debit, Credit, Inquiry, Undo, Complete}
use Rattle.iso_order.specs.declared.key.TxKey.{TxKey}
use Rattle.iso_order.specs.Order.{Instruction, same_pan}
use Rattle.iso_order.specs.Pan.{AccountNumber}
use Rattle.iso_issuer.specs.declared.account.Account.{Account}
use Rattle.iso_issuer.specs.declared.balances.Balance.{Balance}
use Rattle.iso_issuer.specs.declared.effect.Side.TheVariants.{Held}
use Rattle.iso_issuer.specs.declared.journal.Entry.{Entry}
use Rattle.iso_issuer.specs.Account.{account_of}
use Rattle.iso_issuer.specs.Effect.{is_key}
use Rattle.iso_issuer.specs.Journal.{undone_key}
use Rattle.iso_issuer.specs.Balance.{balance_on}
use Rattle.iso_issuer.specs.Books.{Books, journal}
use Rattle.iso_issuer.specs.Decision.{journal_of}
use Rattle.iso_shards.specs.Shards.{is_sent, is_own, accounts_in, IsShard, unplaced_entry}
use Rattle.iso_shards.specs.Laws.{AgreeOn}
use Rattle.iso_shards.proofs.Lists.{every, all-weaker}
use Rattle.iso_shards.proofs.Keys.{same_pan_is}
use Rattle.iso_shards.proofs.Kept.{IsKeptWith}
use Rattle.iso_shards.proofs.Kept.{kept}
use Rattle.iso_shards.proofs.Seen.{account_there, IsSeen, total_seen, holds_seen, balance_seen}
use Rattle.iso_shards.proofs.Seen.{journal_seen}

-- ---- tests that don't look at places

pub unplaced_filter : (q : Instruction → Bool) (es : List Entry)
    → map unplaced_entry (filter (λ e. q e.order) es)
    ≡ filter (λ e. q e.order) (map unplaced_entry es)
unplaced_filter q [] = refl
unplaced_filter q (e ∷ es) = by_test (q e.order) (unplaced_filter q es)
  where
    by_test : (b : Bool)
        → map unplaced_entry (filter (λ e. q e.order) es)
        ≡ filter (λ e. q e.order) (map unplaced_entry es)
        → map unplaced_entry (cond b (e ∷ filter (λ e. q e.order) es) (filter (λ e. q e.order) es))
        ≡ cond b (unplaced_entry e ∷ filter (λ e. q e.order) (map unplaced_entry es))
        (filter (λ e. q e.order) (map unplaced_entry es))
    by_test true rest = ap (λ (l : List Entry). unplaced_entry e ∷ l) rest
    by_test false rest = rest

-- of what is kept, those that pass are those that pass of all
pub filter_kept : {X : Type 0} (p q : X → Bool) (xs : List X)
    → AllByRecursion (λ x. q x ≡ true → p x ≡ true) xs → filter q (filter p xs) ≡ filter q xs
filter_kept {X} p q [] all = refl
filter_kept {X} p q (x ∷ xs) all =
    by_tests (p x) (q x) refl refl all.0 (filter_kept p q xs all.1)
  where
    by_tests : (a b : Bool) → p x ≡ a → q x ≡ b → (q x ≡ true → p x ≡ true)
        → filter q (filter p xs) ≡ filter q xs
        → filter q (cond a (x ∷ filter p xs) (filter p xs)) ≡ cond b (x ∷ filter q xs) (filter q xs)
    by_tests true true e f h rest =
        ap (λ b. cond b (x ∷ filter q (filter p xs)) (filter q (filter p xs))) f
        ∙ ap (λ (l : List X). x ∷ l) rest
    by_tests true false e f h rest =
        ap (λ b. cond b (x ∷ filter q (filter p xs)) (filter q (filter p xs))) f ∙ rest
    by_tests false true e f h rest = let is : p x ≡ true = h f in cc
    by_tests false false e f h rest = rest

-- ---- books

module _ (own : AccountNumber → Bool) (keep : Instruction → Bool) (one other : Books)
    (is_seen : IsSeen own keep (journal one) (journal other)) where
  -- both say the same of the shard's accounts
  pub agree_seen : AgreeOn own one other
  agree_seen = record {
    balances = λ a is. balance_seen own keep (journal one) (journal other) is_seen a is;
    held = λ pan is. total_seen own keep (journal one) (journal other) is_seen Held pan is;
    holds = λ pan is. holds_seen own keep (journal one) (journal other) is_seen pan is;
    answers =
        unplaced_filter (is_own own) (journal other)
        ∙ ap (filter (λ e. is_own own e.order)) is_seen.same
        ∙ sym (unplaced_filter (is_own own) (kept keep (journal one)))
        ∙ ap (map unplaced_entry)
        (filter_kept (λ (e : Entry). keep e.order) (λ (e : Entry). is_own own e.order) (journal one)
        (all-weaker (λ (e : Entry). IsKeptWith own keep e.order)
        (λ (e : Entry). is_own own e.order ≡ true → keep e.order ≡ true) (journal one)
        (λ e with_it. with_it.here) is_seen.all));
  }

  -- the balances, in the order of the accounts
  pub balances_seen : (accounts : List Account)
      → map (balance_on (journal other)) (accounts_in own accounts)
      ≡ filter (λ b. own b.account.pan) (map (balance_on (journal one)) accounts)
  balances_seen [] = refl
  balances_seen (a ∷ accounts) =
      by_test (own a.pan) refl (balances_seen accounts)
    where
      by_test : (b : Bool) → own a.pan ≡ b
          → map (balance_on (journal other)) (accounts_in own accounts)
          ≡ filter (λ b. own b.account.pan) (map (balance_on (journal one)) accounts)
          → map (balance_on (journal other))
          (cond b (a ∷ accounts_in own accounts) (accounts_in own accounts))
          ≡ cond b (balance_on (journal one) a
          ∷ filter (λ b. own b.account.pan) (map (balance_on (journal one)) accounts))
          (filter (λ b. own b.account.pan) (map (balance_on (journal one)) accounts))
      by_test true is rest =
          ap (λ b. b ∷ map (balance_on (journal other)) (accounts_in own accounts))
          (balance_seen own keep (journal one) (journal other) is_seen a is)
          ∙ ap (λ (bs : List Balance). balance_on (journal one) a ∷ bs) rest
      by_test false is rest = rest

-- ---- what is sent to a shard is kept there

own_is_sent : (own : AccountNumber → Bool) (key : TxKey) (act : Act)
    → is_own own (record { key = key; act = act }) ≡ true
    → is_sent own (record { key = key; act = act }) ≡ true
own_is_sent own key (Debit m) is = is
own_is_sent own key (Credit m) is = is
own_is_sent own key (Inquiry m) is = is
own_is_sent own key (Undo original left) is = refl
own_is_sent own key (Complete m hold) is = is

-- a reversal is sent to every shard
pub undo_is_sent : (own : AccountNumber → Bool) (undone : TxKey) (key : TxKey) (act : Act)
    → is_key (undone_key act) undone ≡ true → is_sent own (record { key = key; act = act }) ≡ true
undo_is_sent own undone key (Debit m) h = cc
undo_is_sent own undone key (Credit m) h = cc
undo_is_sent own undone key (Inquiry m) h = cc
undo_is_sent own undone key (Undo original left) h = refl
undo_is_sent own undone key (Complete m hold) h = cc

pub sent_is_kept : (own : AccountNumber → Bool) (o : Instruction)
    → IsKeptWith own (is_sent own) o
sent_is_kept own o = record {
  here = own_is_sent own o.key o.act;
  undos = λ is u h. undo_is_sent own o.key u.key u.act h;
}

module _ (own : AccountNumber → Bool) (whole shard : Books) (is_shard : IsShard own whole shard)
  where
    -- the journal of a shard is seen in that of the whole
    pub shard_seen : IsSeen own (is_sent own) (journal whole) (journal shard)
    shard_seen =
        subst (λ rows. IsSeen own (is_sent own) (journal whole) (journal_of rows shard.orders))
        (sym is_shard.accounts)
        (subst (λ os. IsSeen own (is_sent own) (journal whole)
        (journal_of (accounts_in own whole.accounts) os))
        (sym is_shard.orders)
        (journal_seen own (is_sent own) (λ o h. h) whole.accounts whole.orders
        (every (IsKeptWith own (is_sent own)) whole.orders (sent_is_kept own))))

    pub shard_agrees : AgreeOn own whole shard
    shard_agrees = agree_seen own (is_sent own) whole shard shard_seen

    pub shard_balances : map (balance_on (journal shard)) shard.accounts
        ≡ filter (λ b. own b.account.pan) (map (balance_on (journal whole)) whole.accounts)
    shard_balances =
        ap (map (balance_on (journal shard))) is_shard.accounts
        ∙ balances_seen own (is_sent own) whole shard shard_seen whole.accounts

    pub shard_finds : (pan : AccountNumber) → account_of shard.accounts pan
        ≡ (if own pan then account_of whole.accounts pan else None)
    shard_finds pan =
        ap (λ (rows : List Account). account_of rows pan) is_shard.accounts
        ∙ by_test (own pan) refl
      where
        none : own pan ≡ false → (rows : List Account)
            → account_of (accounts_in own rows) pan ≡ None
        none off [] = refl
        none off (a ∷ rows) =
            by_tests (own a.pan) (same_pan a.pan pan) refl refl (none off rows)
          where
            by_tests : (b t : Bool) → own a.pan ≡ b → same_pan a.pan pan ≡ t
                → account_of (accounts_in own rows) pan ≡ None
                → account_of (cond b (a ∷ accounts_in own rows) (accounts_in own rows)) pan ≡ None
            by_tests true true is same rest = let one = ap own (same_pan_is a.pan pan same) in cc
            by_tests true false is same rest =
                ap (λ t. cond t (Some a) (account_of (accounts_in own rows) pan)) same ∙ rest
            by_tests false t is same rest = rest

        by_test : (b : Bool) → own pan ≡ b → account_of (accounts_in own whole.accounts) pan
            ≡ (if b then account_of whole.accounts pan else None)
        by_test true is = account_there own whole.accounts pan is
        by_test false off = none off whole.accounts
