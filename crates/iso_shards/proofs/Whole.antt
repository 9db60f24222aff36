-- Shards have a whole, in whatever order the reversals came to each.
use Rattle.std.proofs.Common.{◌≡◌, ◌<◌, ℕ, Bool, true, false, refl, arith, ap, sym, ◌∙◌}
use Rattle.std.proofs.Common.{zero, suc, subst, List, [], ◌∷◌, ◌++◌}
use Rattle.std.specs.Prelude.{◌==◌, ◌&&◌, ◌||◌, nat_lt, map, filter}
use Rattle.std.specs.List.{AllByRecursion}
use Rattle.std.proofs.lemmas.Bool.Decides.{nat_tests}
use Rattle.iso_order.specs.declared.act.Act.{Act}
use Rattle.iso_order.specs.declared.act.Act.TheVariants.{Debit, Credit, Inquiry, Undo, Complete}
use Rattle.iso_order.specs.declared.key.TxKey.{TxKey}
use Rattle.iso_order.specs.Order.{Instruction}
use Rattle.iso_order.specs.Pan.{AccountNumber}
use Rattle.iso_issuer.specs.declared.account.Account.{Account}
use Rattle.iso_issuer.specs.declared.journal.Entry.{Entry}
use Rattle.iso_issuer.specs.Books.{Books, journal}
use Rattle.iso_shards.specs.Shards.{is_own, is_concerning, concerning, unplaced_entry, numbers_of}
use Rattle.iso_shards.specs.Shards.{accounts_of_all, AreShards, KeysAreGivenOnce, WasTaken}
use Rattle.iso_shards.specs.Laws.{AgreeOn, IsWholeOf}
use Rattle.std.proofs.lemmas.List.Elements.{filter_agree}
use Rattle.iso_issuer.specs.Effect.{is_key}
use Rattle.iso_issuer.specs.Journal.{undone_key}
use Rattle.iso_shards.specs.Shards.{reverses_own}
use Rattle.iso_shards.proofs.Lists.{every, all-at, all-weaker, all-join}
use Rattle.iso_shards.proofs.Concerned.{first_of_two, second_of_two}
use Rattle.iso_shards.proofs.Kept.{any_kept}
use Rattle.iso_shards.proofs.Agreed.{unplaced_filter, filter_kept}
use Rattle.iso_shards.proofs.Together.{all_from, all_filter}
use Rattle.iso_shards.proofs.Apart.{AreApart}
use Rattle.iso_shards.proofs.Both.{AreGivenOnce, both, agree_one, agree_other}
use Rattle.iso_shards.proofs.Both.{concerns_one, concerns_other}
use Rattle.iso_shards.proofs.Both.{both_distinct}

-- ---- books that agree by way of others

-- what names an account of a part names one of the parts together
own_of_more : (part own : AccountNumber → Bool)
    → ((pan : AccountNumber) → part pan ≡ true → own pan ≡ true) → (key : TxKey) (act : Act)
    → is_own part (record { key = key; act = act }) ≡ true
    → is_own own (record { key = key; act = act }) ≡ true
own_of_more part own more key (Debit m) is = more m.pan is
own_of_more part own more key (Credit m) is = more m.pan is
own_of_more part own more key (Inquiry m) is = more m.pan is
own_of_more part own more key (Undo original left) is = is
own_of_more part own more key (Complete m hold) is = more m.pan is

module _ (part own : AccountNumber → Bool)
    (more : (pan : AccountNumber) → part pan ≡ true → own pan ≡ true) where
  -- the entries of a part, among those of the parts together
  of_part : (es : List Entry)
      → filter (λ e. is_own part e.order)
      (map unplaced_entry (filter (λ e. is_own own e.order) es))
      ≡ map unplaced_entry (filter (λ e. is_own part e.order) es)
  of_part es =
      sym (unplaced_filter (is_own part) (filter (λ e. is_own own e.order) es))
      ∙ ap (map unplaced_entry)
      (filter_kept (λ (e : Entry). is_own own e.order) (λ (e : Entry). is_own part e.order) es
      (all_from _ es (λ i e at is. own_of_more part own more e.order.key e.order.act is)))

  agree_through : (all some one : Books) → AgreeOn own all some → AgreeOn part some one
      → AgreeOn part all one
  agree_through all some one first second = record {
    balances = λ a is. second.balances a is ∙ first.balances a (more a.pan is);
    held = λ pan is. second.held pan is ∙ first.held pan (more pan is);
    holds = λ pan is. second.holds pan is ∙ first.holds pan (more pan is);
    answers =
        second.answers
        ∙ sym (of_part (journal some))
        ∙ ap (filter (λ e. is_own part e.order)) first.answers
        ∙ of_part (journal all);
  }

  -- what concerns a part, among what concerns the parts together
  concerns_part : (orders : List Instruction)
      → concerning part (concerning own orders) ≡ concerning part orders
  concerns_part orders =
      filter_agree (is_concerning part (concerning own orders)) (is_concerning part orders) same
      (concerning own orders)
      ∙ filter_kept (is_concerning own orders) (is_concerning part orders) orders
      (every (λ (x : Instruction).
      is_concerning part orders x ≡ true → is_concerning own orders x ≡ true)
      orders (λ x. concerns_more x))
    where
      own_too : (p : Instruction) → is_own part p ≡ true → is_own own p ≡ true
      own_too p is = own_of_more part own more p.key p.act is

      front : (a b : Bool) → a && b ≡ true → a ≡ true
      front true b h = refl
      front false b h = cc

      same : (x : Instruction)
          → is_concerning part (concerning own orders) x ≡ is_concerning part orders x
      same x =
          ap (λ b. is_own part x || b)
          (any_kept (is_concerning own orders) t t orders
          (every (λ (p : Instruction). (t p ≡ true → is_concerning own orders p ≡ true)
          × (is_concerning own orders p ≡ true → t p ≡ t p)) orders
          (λ p. (
            λ h. first_of_two (is_own own p) (reverses_own own orders p)
                (own_too p (front (is_own part p) (is_key (undone_key x.act) p.key) h)),
            λ c. refl,
          ))))
        where
          t : Instruction → Bool
          t p = is_own part p && is_key (undone_key x.act) p.key

      any_more : (x : Instruction) (os : List Instruction) → reverses_own part os x ≡ true
          → reverses_own own os x ≡ true
      any_more x [] h = cc
      any_more x (p ∷ os) h =
          by_test (is_own part p) (is_key (undone_key x.act) p.key) refl refl h (any_more x os)
        where
          by_test : (a b : Bool) → is_own part p ≡ a → is_key (undone_key x.act) p.key ≡ b
              → (a && b) || reverses_own part os x ≡ true
              → (reverses_own part os x ≡ true → reverses_own own os x ≡ true)
              → (is_own own p && is_key (undone_key x.act) p.key) || reverses_own own os x ≡ true
          by_test true true a b h rest =
              ap (λ c. (c && is_key (undone_key x.act) p.key) || reverses_own own os x)
              (own_too p a)
              ∙ ap (λ c. c || reverses_own own os x) b
          by_test true false a b h rest = second_of_two _ _ (rest h)
          by_test false c a b h rest = second_of_two _ _ (rest h)

      concerns_more : (x : Instruction) → is_concerning part orders x ≡ true
          → is_concerning own orders x ≡ true
      concerns_more x = by_test (is_own part x) refl
        where
          by_test : (a : Bool) → is_own part x ≡ a → a || reverses_own part orders x ≡ true
              → is_own own x || reverses_own own orders x ≡ true
          by_test true a h = first_of_two (is_own own x) (reverses_own own orders x) (own_too x a)
          by_test false a h =
              second_of_two (is_own own x) (reverses_own own orders x) (any_more x orders h)

-- ---- so many shards

module _ (shard_of : AccountNumber → ℕ) (shards : ℕ → Books) where
  -- the account numbers of the first so many
  abbrev below : ℕ → AccountNumber → Bool
  below count pan = nat_lt (shard_of pan) count

  below_apart : (n : ℕ) → AreApart (below n) (numbers_of shard_of n)
  below_apart n pan is = grind (arith, nat_tests)

  one_below : (m n : ℕ) → m < n → (pan : AccountNumber) → numbers_of shard_of m pan ≡ true
      → below n pan ≡ true
  one_below m n less pan is = grind (arith, nat_tests)

  rows_below : (count : ℕ) → AreShards shard_of count shards
      → AllByRecursion (λ a. below count a.pan ≡ true) (accounts_of_all count shards)
  rows_below zero are = tt
  rows_below (suc n) are =
      all-join (λ (a : Account). below (suc n) a.pan ≡ true) (accounts_of_all n shards)
      (shards n).accounts
      (all-weaker (λ (a : Account). below n a.pan ≡ true) (λ (a : Account). below (suc n) a.pan ≡ true)
      (accounts_of_all n shards) (λ a is. one_more a.pan is)
      (rows_below n (λ m less. are m (omega arith))))
      (all-weaker (λ (a : Account). numbers_of shard_of n a.pan ≡ true)
      (λ (a : Account). below (suc n) a.pan ≡ true) (shards n).accounts
      (λ a is. one_below n (suc n) (omega arith) a.pan is) (are n (omega arith)).0)
    where
      one_more : (pan : AccountNumber) → below n pan ≡ true → below (suc n) pan ≡ true
      one_more pan is = grind (arith, nat_tests)

  -- what the first so many took was taken by one of one more
  taken_too : (n : ℕ) (o : Instruction) → WasTaken n shards o → WasTaken (suc n) shards o
  taken_too n o taken = record {
    by = taken.by;
    within = omega (arith, taken.within);
    place = taken.place;
    there = taken.there;
  }

  module _ (n : ℕ) (are : AreShards shard_of (suc n) shards)
      (once : KeysAreGivenOnce (suc n) shards) (some : Books)
      (is_whole : IsWholeOf shard_of n shards some) where
    given_once : AreGivenOnce some.orders (shards n).orders
    given_once i j o p at_o at_p same =
        let taken = all-at (WasTaken n shards) some.orders i o is_whole.taken at_o in
        once taken.by n taken.place j o p (omega (arith, taken.within)) (omega arith)
        taken.there at_p same

    rows : AllByRecursion (λ a. below n a.pan ≡ true) some.accounts
    rows =
        subst (AllByRecursion (λ a. below n a.pan ≡ true)) (sym is_whole.accounts)
        (rows_below n (λ m less. are m (omega arith)))

    abbrev all : Books
    all = both (below n) (numbers_of shard_of n) some (shards n)

    -- one shard more
    one_more : IsWholeOf shard_of (suc n) shards all
    one_more =
        let own = below n in
        let others = numbers_of shard_of n in
        let last = are n (omega arith) in
        record {
          accounts = ap (λ l. l ++ (shards n).accounts) is_whole.accounts;
          room = omega arith;
          once =
              both_distinct own others some (shards n) (below_apart n) given_once rows last.0
              is_whole.once last.1;
          taken =
              all-join (WasTaken (suc n) shards) (concerning own some.orders)
              (concerning others (shards n).orders)
              (all_filter (WasTaken (suc n) shards) (is_concerning own some.orders) some.orders
              (all-weaker (WasTaken n shards) (WasTaken (suc n) shards) some.orders (taken_too n)
              is_whole.taken))
              (all_filter (WasTaken (suc n) shards) (is_concerning others (shards n).orders)
              (shards n).orders (all_from (WasTaken (suc n) shards) (shards n).orders (λ i o at.
              record { by = n; within = omega arith; place = i; there = at })));
          concerned = λ m within. concerned_by (m == n) refl within;
          agree = λ m within. by_test (m == n) refl within;
        }
      where
        concerned_by : {m : ℕ} (b : Bool) → (m == n) ≡ b → m < suc n
            → concerning (numbers_of shard_of m) all.orders
            ≡ concerning (numbers_of shard_of m) (shards m).orders
        concerned_by {m} true same within =
            let one : n ≡ m = grind (arith, nat_tests) in
            subst (λ (k : ℕ). concerning (numbers_of shard_of k) all.orders
            ≡ concerning (numbers_of shard_of k) (shards k).orders) one
            (concerns_other (below n) (numbers_of shard_of n) some (shards n) (below_apart n)
            given_once rows (are n (omega arith)).0)
        concerned_by {m} false other within =
            let less : m < n = grind (arith, nat_tests) in
            sym (concerns_part (numbers_of shard_of m) (below n) (one_below m n less) all.orders)
            ∙ ap (concerning (numbers_of shard_of m))
            (concerns_one (below n) (numbers_of shard_of n) some (shards n) (below_apart n)
            given_once rows (are n (omega arith)).0)
            ∙ concerns_part (numbers_of shard_of m) (below n) (one_below m n less) some.orders
            ∙ is_whole.concerned m less

        by_test : {m : ℕ} (b : Bool) → (m == n) ≡ b → m < suc n
            → AgreeOn (numbers_of shard_of m) all (shards m)
        by_test {m} true same within =
            let one : n ≡ m = grind (arith, nat_tests) in
            subst (λ (k : ℕ). AgreeOn (numbers_of shard_of k) all (shards k)) one
            (agree_other (below n) (numbers_of shard_of n) some (shards n) (below_apart n)
            given_once rows (are n (omega arith)).0)
        by_test {m} false other within =
            let less : m < n = grind (arith, nat_tests) in
            agree_through (numbers_of shard_of m) (below n) (one_below m n less) all some (shards m)
            (agree_one (below n) (numbers_of shard_of n) some (shards n) (below_apart n) given_once
            rows (are n (omega arith)).0)
            (is_whole.agree m less)

  pub have_a_whole : (count : ℕ) → AreShards shard_of count shards
      → KeysAreGivenOnce count shards → (whole : Books) × IsWholeOf shard_of count shards whole
  have_a_whole zero are once = (
    record { accounts = []; limit = 0; orders = [] },
    record {
      accounts = refl;
      room = omega arith;
      once = tt;
      taken = tt;
      concerned = λ n within. absurd (omega arith);
      agree = λ n within. absurd (omega arith);
    },
  )
  have_a_whole (suc n) are once =
      let rest = have_a_whole n (λ m less. are m (omega arith))
      (λ l m i j o p l_less m_less. once l m i j o p (omega arith) (omega arith)) in
      (both (below n) (numbers_of shard_of n) rest.0 (shards n), one_more n are once rest.0 rest.1)
