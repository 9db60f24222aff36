-- The books of two whose accounts are apart.
use Rattle.std.proofs.Common.{◌≡◌, ℕ, Bool, true, false, cond, refl, ap, sym, ◌∙◌}
use Rattle.std.proofs.Common.{List, [], ◌∷◌, ◌++◌, append-nil, length}
use Rattle.std.specs.Prelude.{◌||◌, Some, filter, slice_get}
use Rattle.std.specs.List.{list_any, AllByRecursion}
use Rattle.std.proofs.lemmas.List.Elements.{filter-append}
use Rattle.iso_order.specs.declared.key.TxKey.{TxKey}
use Rattle.iso_order.specs.Key.{same_key}
use Rattle.iso_order.specs.Order.{Instruction}
use Rattle.iso_order.specs.Pan.{AccountNumber}
use Rattle.iso_issuer.specs.declared.account.Account.{Account}
use Rattle.iso_issuer.specs.Books.{Books}
use Rattle.iso_issuer.specs.Decision.{journal_of}
use Rattle.iso_issuer.specs.Journal.{is_entered, HasDistinctKeys}
use Rattle.iso_shards.specs.Shards.{is_own, is_concerning, concerning, accounts_in}
use Rattle.iso_shards.specs.Laws.{AgreeOn}
use Rattle.iso_shards.proofs.Lists.{all-weaker}
use Rattle.iso_shards.proofs.Keys.{same_key_is}
use Rattle.iso_shards.proofs.Together.{all_from, all_filter}
use Rattle.iso_shards.proofs.Concerned.{concerned, concerned_agrees}
use Rattle.iso_shards.proofs.Concerned.{agree_by}
use Rattle.iso_shards.proofs.Apart.{AreApart, KeysAreApart, all_both, filter_all, filter_none}
use Rattle.iso_shards.proofs.Apart.{any_none, any_append, or_comm, apart_too, own_apart}
use Rattle.iso_shards.proofs.Apart.{in_first, in_second}

-- ---- distinct keys

none_left : (p : Instruction → Bool) (k : TxKey) (xs : List Instruction)
    → is_entered xs k ≡ false → is_entered (filter p xs) k ≡ false
none_left p k [] none = refl
none_left p k (x ∷ xs) none =
    by_test (p x) (same_key x.key k) refl none (none_left p k xs)
  where
    by_test : (b t : Bool) → same_key x.key k ≡ t → t || is_entered xs k ≡ false
        → (is_entered xs k ≡ false → is_entered (filter p xs) k ≡ false)
        → is_entered (cond b (x ∷ filter p xs) (filter p xs)) k ≡ false
    by_test b true t none rest = cc
    by_test true false t none rest =
        ap (λ s. s || is_entered (filter p xs) k) t ∙ rest none
    by_test false false t none rest = rest none

distinct_filtered : (p : Instruction → Bool) (xs : List Instruction) → HasDistinctKeys xs
    → HasDistinctKeys (filter p xs)
distinct_filtered p [] distinct = tt
distinct_filtered p (x ∷ xs) distinct = by_test (p x) (distinct_filtered p xs distinct.1)
  where
    by_test : (b : Bool) → HasDistinctKeys (filter p xs)
        → HasDistinctKeys (cond b (x ∷ filter p xs) (filter p xs))
    by_test true rest = (none_left p x.key xs distinct.0, rest)
    by_test false rest = rest

distinct_append : (xs ys : List Instruction) → HasDistinctKeys xs → HasDistinctKeys ys
    → AllByRecursion (λ x. is_entered ys x.key ≡ false) xs → HasDistinctKeys (xs ++ ys)
distinct_append [] ys one other away = other
distinct_append (x ∷ xs) ys one other away = (
  any_append (λ (o : Instruction). same_key o.key x.key) xs ys
      ∙ ap (λ b. b || is_entered ys x.key) one.0
      ∙ away.0,
  distinct_append xs ys one.1 other away.1,
)

-- ---- two books of accounts that are apart

-- orders of both with one key are one order
abbrev pub AreGivenOnce : List Instruction → List Instruction → Type 0
AreGivenOnce xs ys =
    (i j : ℕ) (o p : Instruction) → slice_get xs i ≡ Some o → slice_get ys j ≡ Some p →
    o.key ≡ p.key → o ≡ p

keys_apart : (own others : AccountNumber → Bool) (xs ys : List Instruction)
    → AreApart own others → AreGivenOnce xs ys → KeysAreApart own others xs ys
keys_apart own others xs ys apart once =
    all_from _ xs (λ i p at_p is.
    all_from _ ys (λ j q at_q is_too. each i j p q at_p at_q is is_too))
  where
    each : (i j : ℕ) (p q : Instruction) → slice_get xs i ≡ Some p → slice_get ys j ≡ Some q
        → is_own own p ≡ true → is_own others q ≡ true → same_key p.key q.key ≡ false
    each i j p q at_p at_q is is_too = by_test (same_key p.key q.key) refl
      where
        by_test : (b : Bool) → same_key p.key q.key ≡ b → b ≡ false
        by_test false t = refl
        by_test true t =
            let one = once i j p q at_p at_q (same_key_is p.key q.key t) in
            let off : is_own others p ≡ false = own_apart own others apart p.key p.act is in
            let on : is_own others p ≡ true = ap (is_own others) one ∙ is_too in
            cc

module _ (own others : AccountNumber → Bool) (one other : Books) where
  -- the books of both
  abbrev pub both : Books
  both = record {
    accounts = one.accounts ++ other.accounts;
    limit = length (concerning own one.orders ++ concerning others other.orders);
    orders = concerning own one.orders ++ concerning others other.orders;
  }

  module _ (apart : AreApart own others) (once : AreGivenOnce one.orders other.orders)
      (rows : AllByRecursion (λ a. own a.pan ≡ true) one.accounts)
      (other_rows : AllByRecursion (λ a. others a.pan ≡ true) other.accounts) where
    apart_other : AreApart others own
    apart_other = apart_too own others apart

    once_too : AreGivenOnce other.orders one.orders
    once_too i j o p at_o at_p same = sym (once j i p o at_p at_o (sym same))

    either : (t : Instruction → Bool)
        → list_any t (concerning own one.orders ++ concerning others other.orders)
        ≡ list_any t (concerning own one.orders) || list_any t (concerning others other.orders)
    either t = any_append t (concerning own one.orders) (concerning others other.orders)

    either_too : (t : Instruction → Bool)
        → list_any t (concerning own one.orders ++ concerning others other.orders)
        ≡ list_any t (concerning others other.orders) || list_any t (concerning own one.orders)
    either_too t = either t
        ∙ or_comm (list_any t (concerning own one.orders))
        (list_any t (concerning others other.orders))

    own_first : AllByRecursion (λ x. is_concerning own both.orders x ≡ true)
        (concerning own one.orders)
    own_first =
        in_first own others apart one.orders other.orders
        (keys_apart own others one.orders other.orders apart once) both.orders either

    own_second : AllByRecursion (λ x. is_concerning own both.orders x ≡ false)
        (concerning others other.orders)
    own_second =
        in_second own others apart one.orders other.orders
        (keys_apart own others one.orders other.orders apart once) both.orders either

    others_second : AllByRecursion (λ x. is_concerning others both.orders x ≡ true)
        (concerning others other.orders)
    others_second =
        in_first others own apart_other other.orders one.orders
        (keys_apart others own other.orders one.orders apart_other once_too) both.orders either_too

    others_first : AllByRecursion (λ x. is_concerning others both.orders x ≡ false)
        (concerning own one.orders)
    others_first =
        in_second others own apart_other other.orders one.orders
        (keys_apart others own other.orders one.orders apart_other once_too) both.orders either_too

    pub concerns_one : concerning own both.orders ≡ concerning own one.orders
    concerns_one =
        filter-append (is_concerning own both.orders) (concerning own one.orders)
        (concerning others other.orders)
        ∙ ap (λ l. l ++ filter (is_concerning own both.orders) (concerning others other.orders))
        (filter_all (is_concerning own both.orders) (concerning own one.orders) own_first)
        ∙ ap (λ l. concerning own one.orders ++ l)
        (filter_none (is_concerning own both.orders) (concerning others other.orders) own_second)
        ∙ append-nil (concerning own one.orders)

    pub concerns_other : concerning others both.orders ≡ concerning others other.orders
    concerns_other =
        filter-append (is_concerning others both.orders) (concerning own one.orders)
        (concerning others other.orders)
        ∙ ap (λ l. l ++ filter (is_concerning others both.orders) (concerning others other.orders))
        (filter_none (is_concerning others both.orders) (concerning own one.orders) others_first)
        ∙ filter_all (is_concerning others both.orders) (concerning others other.orders)
        others_second

    rows_one : accounts_in own both.accounts ≡ accounts_in own one.accounts
    rows_one =
        filter-append (λ (a : Account). own a.pan) one.accounts other.accounts
        ∙ ap (λ l. accounts_in own one.accounts ++ l)
        (filter_none (λ (a : Account). own a.pan) other.accounts
        (all-weaker (λ (a : Account). others a.pan ≡ true) (λ (a : Account). own a.pan ≡ false)
        other.accounts (λ a is. apart_other a.pan is) other_rows))
        ∙ append-nil (accounts_in own one.accounts)

    rows_other : accounts_in others both.accounts ≡ accounts_in others other.accounts
    rows_other =
        filter-append (λ (a : Account). others a.pan) one.accounts other.accounts
        ∙ ap (λ l. l ++ accounts_in others other.accounts)
        (filter_none (λ (a : Account). others a.pan) one.accounts
        (all-weaker (λ (a : Account). own a.pan ≡ true) (λ (a : Account). others a.pan ≡ false)
        one.accounts (λ a is. apart a.pan is) rows))

    pub agree_one : AgreeOn own both one
    agree_one =
        agree_by own both one (concerned own both) (concerned own one)
        (concerned_agrees own both) (concerned_agrees own one)
        (sym (ap (λ (l : List Account). journal_of l (concerning own both.orders)) rows_one
        ∙ ap (journal_of (accounts_in own one.accounts)) concerns_one))

    pub agree_other : AgreeOn others both other
    agree_other =
        agree_by others both other (concerned others both) (concerned others other)
        (concerned_agrees others both) (concerned_agrees others other)
        (sym (ap (λ (as_rows : List Account). journal_of as_rows (concerning others both.orders))
        rows_other
        ∙ ap (journal_of (accounts_in others other.accounts)) concerns_other))

    pub both_distinct : HasDistinctKeys one.orders → HasDistinctKeys other.orders
        → HasDistinctKeys both.orders
    both_distinct distinct distinct_too =
        distinct_append (concerning own one.orders) (concerning others other.orders)
        (distinct_filtered (is_concerning own one.orders) one.orders distinct)
        (distinct_filtered (is_concerning others other.orders) other.orders distinct_too)
        (all_both (λ (x : Instruction).
        AllByRecursion (λ y. same_key y.key x.key ≡ true → x ≡ y) other.orders)
        (λ (x : Instruction). is_concerning own both.orders x ≡ true)
        (λ (x : Instruction). is_entered (concerning others other.orders) x.key ≡ false)
        (concerning own one.orders) away
        (all_filter _ (is_concerning own one.orders) one.orders
        (all_from _ one.orders (λ i x at_x. all_from _ other.orders (λ j y at_y same.
        once i j x y at_x at_y (sym (same_key_is y.key x.key same))))))
        own_first)
      where
        away : (x : Instruction)
            → AllByRecursion (λ y. same_key y.key x.key ≡ true → x ≡ y) other.orders
            → is_concerning own both.orders x ≡ true
            → is_entered (concerning others other.orders) x.key ≡ false
        away x same is =
            any_none (λ (y : Instruction). same_key y.key x.key) (concerning others other.orders)
            (all_both (λ (y : Instruction). same_key y.key x.key ≡ true → x ≡ y)
            (λ (y : Instruction). is_concerning own both.orders y ≡ false)
            (λ (y : Instruction). same_key y.key x.key ≡ false)
            (concerning others other.orders) each
            (all_filter _ (is_concerning others other.orders) other.orders same) own_second)
          where
            each : (y : Instruction) → (same_key y.key x.key ≡ true → x ≡ y)
                → is_concerning own both.orders y ≡ false → same_key y.key x.key ≡ false
            each y one_of off = by_test (same_key y.key x.key) refl
              where
                by_test : (b : Bool) → same_key y.key x.key ≡ b → b ≡ false
                by_test false t = refl
                by_test true t =
                    let there : is_concerning own both.orders y ≡ true =
                    ap (is_concerning own both.orders) (sym (one_of t)) ∙ is in
                    cc
