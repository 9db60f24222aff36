-- The orders that concern a shard are all that counts there.
use Rattle.std.proofs.Common.{◌≡◌, ℕ, Bool, true, false, cond, refl, ap, sym, ◌∙◌, subst}
use Rattle.std.proofs.Common.{zero, suc, List, [], ◌∷◌, ◌++◌, append-nil}
use Rattle.std.specs.Prelude.{◌&&◌, ◌||◌, Some, map, filter, slice_get}
use Rattle.std.specs.List.{list_any, AllByRecursion}
use Rattle.std.proofs.lemmas.List.Elements.{filter-append, filter_agree}
use Rattle.iso_order.specs.declared.act.Act.{Act}
use Rattle.iso_order.specs.declared.act.Act.TheVariants.{Debit, Credit, Inquiry, Undo, Complete}
use Rattle.iso_order.specs.declared.key.TxKey.{TxKey}
use Rattle.iso_order.specs.Key.{same_key}
use Rattle.iso_order.specs.Order.{Instruction}
use Rattle.iso_order.specs.Pan.{AccountNumber}
use Rattle.iso_issuer.specs.declared.account.Account.{Account}
use Rattle.iso_issuer.specs.declared.effect.Side.TheVariants.{Held}
use Rattle.iso_issuer.specs.declared.journal.Entry.{Entry}
use Rattle.iso_issuer.specs.Balance.{total, balance_on}
use Rattle.iso_issuer.specs.Books.{Books, journal, books_with}
use Rattle.iso_issuer.specs.Decision.{journal_of}
use Rattle.iso_issuer.specs.Effect.{is_key}
use Rattle.iso_issuer.specs.Holds.{open_holds}
use Rattle.iso_issuer.specs.Journal.{is_entered, undone_key, HasDistinctKeys}
use Rattle.iso_shards.specs.Shards.{is_sent, is_own, reverses_own, is_concerning, concerning}
use Rattle.iso_shards.specs.Shards.{accounts_in, unplaced_entry, unplaced_hold}
use Rattle.iso_shards.specs.Laws.{AgreeOn}
use Rattle.iso_shards.proofs.Keys.{same_key_sym}
use Rattle.iso_shards.proofs.Kept.{IsKeptWith}
use Rattle.iso_shards.proofs.Seen.{journal_seen}
use Rattle.iso_shards.proofs.Agreed.{agree_seen}
use Rattle.iso_shards.proofs.Together.{all_from}
use Rattle.iso_shards.proofs.Steps.{IssuerLaws}

-- ---- what concerns a shard is kept there

-- what passes at a place passes somewhere
any_at : {X : Type 0} (t : X → Bool) (xs : List X) (i : ℕ) (x : X) → slice_get xs i ≡ Some x
    → t x ≡ true → list_any t xs ≡ true
any_at t [] i x at h = cc
any_at t (y ∷ ys) zero x at h =
    let one : y ≡ x = cc in
    ap (λ b. b || list_any t ys) (ap t one ∙ h)
any_at t (y ∷ ys) (suc i) x at h = or_true (t y) (list_any t ys) (any_at t ys i x at h)
  where
    or_true : (a b : Bool) → b ≡ true → a || b ≡ true
    or_true true b h = refl
    or_true false b h = h

pub first_of_two : (a b : Bool) → a ≡ true → a || b ≡ true
first_of_two a b h = ap (λ t. t || b) h

pub second_of_two : (a b : Bool) → b ≡ true → a || b ≡ true
second_of_two true b h = refl
second_of_two false b h = h

both : (a b : Bool) → a ≡ true → b ≡ true → a && b ≡ true
both a b h k = ap (λ t. t && b) h ∙ k

module _ (own : AccountNumber → Bool) (orders : List Instruction) where
  -- only a reversal reverses
  none_reversed : (xs : List Instruction) → list_any (λ p. is_own own p && false) xs ≡ false
  none_reversed [] = refl
  none_reversed (x ∷ xs) = by_test (is_own own x) (none_reversed xs)
    where
      by_test : (b : Bool) → list_any (λ p. is_own own p && false) xs ≡ false
          → (b && false) || list_any (λ p. is_own own p && false) xs ≡ false
      by_test true rest = rest
      by_test false rest = rest

  pub only_own : (b : Bool) → b || list_any (λ p. is_own own p && false) orders ≡ true → b ≡ true
  only_own true h = refl
  only_own false h = let none = none_reversed orders in cc

  -- what concerns the shard is sent to it
  concerning_sent : (key : TxKey) (act : Act)
      → is_concerning own orders (record { key = key; act = act }) ≡ true
      → is_sent own (record { key = key; act = act }) ≡ true
  concerning_sent key (Debit m) h = only_own (own m.pan) h
  concerning_sent key (Credit m) h = only_own (own m.pan) h
  concerning_sent key (Inquiry m) h = only_own (own m.pan) h
  concerning_sent key (Undo original left) h = refl
  concerning_sent key (Complete m hold) h = only_own (own m.pan) h

  concerning_kept : AllByRecursion (IsKeptWith own (is_concerning own orders)) orders
  concerning_kept = all_from (IsKeptWith own (is_concerning own orders)) orders at
    where
      at : (i : ℕ) (o : Instruction) → slice_get orders i ≡ Some o
          → IsKeptWith own (is_concerning own orders) o
      at i o there = record {
        here = λ is. first_of_two (is_own own o) (reverses_own own orders o) is;
        undos = λ is u names.
            second_of_two (is_own own u) (reverses_own own orders u)
            (any_at (λ (p : Instruction). is_own own p && is_key (undone_key u.act) p.key) orders
            i o there (both (is_own own o) (is_key (undone_key u.act) o.key) is names));
      }

-- the books of what concerns the shard
abbrev pub concerned : (AccountNumber → Bool) → Books → Books
concerned own b = record {
  accounts = accounts_in own b.accounts;
  limit = b.limit;
  orders = concerning own b.orders;
}

pub concerned_agrees : (own : AccountNumber → Bool) (b : Books) → AgreeOn own b (concerned own b)
concerned_agrees own b =
    agree_seen own (is_concerning own b.orders) b (concerned own b)
    (journal_seen own (is_concerning own b.orders)
    (λ o h. concerning_sent own b.orders o.key o.act h) b.accounts b.orders
    (concerning_kept own b.orders))

-- ---- books with the same orders that concern the shard

pub agree_by : (own : AccountNumber → Bool) (one other first second : Books)
    → AgreeOn own one first → AgreeOn own other second → journal second ≡ journal first
    → AgreeOn own one other
agree_by own one other first second f s same = record {
  balances = λ a is.
      sym (s.balances a is) ∙ ap (λ (j : List Entry). balance_on j a) same ∙ f.balances a is;
  held = λ pan is.
      sym (s.held pan is) ∙ ap (λ (j : List Entry). total Held pan j) same ∙ f.held pan is;
  holds = λ pan is.
      sym (s.holds pan is)
      ∙ ap (λ (j : List Entry). map unplaced_hold (open_holds j pan)) same
      ∙ f.holds pan is;
  answers =
      sym s.answers
      ∙ ap (λ (j : List Entry). map unplaced_entry (filter (λ e. is_own own e.order) j)) same
      ∙ f.answers;
}

pub stand_anywhere : (own : AccountNumber → Bool) (one other : Books)
    → other.accounts ≡ one.accounts
    → concerning own other.orders ≡ concerning own one.orders → AgreeOn own one other
stand_anywhere own one other accounts orders =
    agree_by own one other (concerned own one) (concerned own other)
    (concerned_agrees own one) (concerned_agrees own other)
    (ap (λ (rows : List Account). journal_of (accounts_in own rows) (concerning own other.orders))
    accounts
    ∙ ap (journal_of (accounts_in own one.accounts)) orders)

-- ---- a reversal of what isn't there

module _ (own : AccountNumber → Bool) (key original : TxKey) (left : ℕ) where
  -- it reverses none of these
  reverses_none : (os : List Instruction) → is_entered os original ≡ false
      → reverses_own own os (record { key = key; act = Undo original left }) ≡ false
  reverses_none [] none = refl
  reverses_none (p ∷ os) none =
      by_test (same_key p.key original) refl none (reverses_none os)
    where
      by_test : (b : Bool) → same_key p.key original ≡ b
          → b || is_entered os original ≡ false
          → (is_entered os original ≡ false
          → reverses_own own os (record { key = key; act = Undo original left }) ≡ false)
          → (is_own own p && same_key original p.key)
          || reverses_own own os (record { key = key; act = Undo original left }) ≡ false
      by_test true same none rest = cc
      by_test false other none rest =
          ap (λ b. (is_own own p && b)
          || reverses_own own os (record { key = key; act = Undo original left }))
          (same_key_sym original p.key ∙ other)
          ∙ by_own (is_own own p) (rest none)
        where
          by_own : (b : Bool)
              → reverses_own own os (record { key = key; act = Undo original left }) ≡ false
              → (b && false)
              || reverses_own own os (record { key = key; act = Undo original left }) ≡ false
          by_own true none = none
          by_own false none = none

  -- and what reverses another order goes on to do so
  any_push : (t : Instruction → Bool) (os : List Instruction)
      → t (record { key = key; act = Undo original left }) ≡ false
      → list_any t (os ++ record { key = key; act = Undo original left } ∷ []) ≡ list_any t os
  any_push t [] off = ap (λ b. b || false) off
  any_push t (p ∷ os) off = ap (λ b. t p || b) (any_push t os off)

  concerning_push : (os : List Instruction) → is_entered os original ≡ false
      → concerning own (os ++ record { key = key; act = Undo original left } ∷ [])
      ≡ concerning own os
  concerning_push os none =
      filter_agree (is_concerning own (os ++ o ∷ [])) (is_concerning own os) same (os ++ o ∷ [])
      ∙ filter-append (is_concerning own os) os (o ∷ [])
      ∙ ap (λ b. concerning own os ++ cond b (o ∷ []) []) (reverses_none os none)
      ∙ append-nil (concerning own os)
    where
      o : Instruction
      o = record { key = key; act = Undo original left }

      same : (p : Instruction) → is_concerning own (os ++ o ∷ []) p ≡ is_concerning own os p
      same p =
          ap (λ b. is_own own p || b)
          (any_push (λ (q : Instruction). is_own own q && is_key (undone_key p.act) q.key) os refl)

  pub stray_changes_nothing : (laws : IssuerLaws) (b : Books) → HasDistinctKeys b.orders
      → is_entered b.orders original ≡ false
      → AgreeOn own b (books_with b (record { key = key; act = Undo original left }))
  stray_changes_nothing laws b distinct none = by_test (is_entered b.orders key) refl
    where
      o : Instruction
      o = record { key = key; act = Undo original left }

      by_test : (t : Bool) → is_entered b.orders key ≡ t → AgreeOn own b (books_with b o)
      by_test true known =
          subst (AgreeOn own b) (sym (laws.known b o distinct known))
          (record {
            balances = λ a is. refl;
            held = λ pan is. refl;
            holds = λ pan is. refl;
            answers = refl;
          })
      by_test false new =
          subst (AgreeOn own b) (sym (laws.last b o distinct new))
          (stand_anywhere own b (record {
            accounts = b.accounts;
            limit = b.limit;
            orders = b.orders ++ o ∷ [];
          }) refl (concerning_push b.orders none))
