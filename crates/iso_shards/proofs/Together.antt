-- Orders of one key that go together: of those that are sent to a shard the first ones are those of
-- the first ones that are sent there.
use Rattle.std.proofs.Common.{◌≡◌, ℕ, Bool, true, false, cond, not, refl, ap, sym, ◌∙◌}
use Rattle.std.proofs.Common.{zero, suc, List, [], ◌∷◌, ◌++◌}
use Rattle.std.specs.Prelude.{Some, filter, slice_get}
use Rattle.std.specs.List.{AllByRecursion}
use Rattle.iso_order.specs.declared.key.TxKey.{TxKey}
use Rattle.iso_order.specs.Key.{same_key}
use Rattle.iso_order.specs.Order.{Instruction}
use Rattle.iso_order.specs.Pan.{AccountNumber}
use Rattle.iso_issuer.specs.Journal.{firsts}
use Rattle.iso_shards.specs.Shards.{is_sent_by, is_sent, sent_to}
use Rattle.iso_shards.specs.Shards.{KeysGoTogether, KeysNameOneAccount}
use Rattle.iso_shards.proofs.Lists.{all-weaker}
use Rattle.iso_shards.proofs.Keys.{same_key_is}

-- ---- what is true at each place is true of all

pub all_from : {X : Type 0} (P : X → Type 0) (xs : List X)
    → ((i : ℕ) (x : X) → slice_get xs i ≡ Some x → P x) → AllByRecursion P xs
all_from P [] at = tt
all_from P (x ∷ xs) at = (at zero x refl, all_from P xs (λ i y h. at (suc i) y h))

pub all_last : {X : Type 0} (P : X → Type 0) (xs : List X) (x : X)
    → AllByRecursion P (xs ++ x ∷ []) → P x
all_last P [] x all = all.0
all_last P (y ∷ ys) x all = all_last P ys x all.1

pub all_filter : {X : Type 0} (P : X → Type 0) (p : X → Bool) (xs : List X) → AllByRecursion P xs
    → AllByRecursion P (filter p xs)
all_filter P p [] all = tt
all_filter P p (x ∷ xs) all = by_test (p x) (all_filter P p xs all.1)
  where
    by_test : (b : Bool) → AllByRecursion P (filter p xs)
        → AllByRecursion P (cond b (x ∷ filter p xs) (filter p xs))
    by_test true rest = (all.0, rest)
    by_test false rest = rest

all_firsts : (P : Instruction → Type 0) (os : List Instruction) → AllByRecursion P os
    → AllByRecursion P (firsts os)
all_firsts P [] all = tt
all_firsts P (o ∷ os) all =
    (all.0, all_filter P (λ p. not (same_key p.key o.key)) (firsts os) (all_firsts P os all.1))

-- ---- filters

filter_swap : {X : Type 0} (p q : X → Bool) (xs : List X)
    → filter p (filter q xs) ≡ filter q (filter p xs)
filter_swap {X} p q [] = refl
filter_swap {X} p q (x ∷ xs) = by_tests (p x) (q x) refl refl (filter_swap p q xs)
  where
    by_tests : (a b : Bool) → p x ≡ a → q x ≡ b → filter p (filter q xs) ≡ filter q (filter p xs)
        → filter p (cond b (x ∷ filter q xs) (filter q xs))
        ≡ filter q (cond a (x ∷ filter p xs) (filter p xs))
    by_tests true true e f rest = rw (e, f) (ap (λ (ys : List X). x ∷ ys) rest)
    by_tests true false e f rest = rw f rest
    by_tests false true e f rest = rw e rest
    by_tests false false e f rest = rest

-- where none of a key passes, leaving that key out changes nothing
filter_without : (p : Instruction → Bool) (key : TxKey) (xs : List Instruction)
    → AllByRecursion (λ x. same_key x.key key ≡ true → p x ≡ false) xs
    → filter p (filter (λ x. not (same_key x.key key)) xs) ≡ filter p xs
filter_without p key [] all = refl
filter_without p key (x ∷ xs) all =
    by_test (same_key x.key key) refl all.0 (filter_without p key xs all.1)
  where
    rest_of : List Instruction
    rest_of = filter (λ y. not (same_key y.key key)) xs

    by_test : (b : Bool) → same_key x.key key ≡ b → (same_key x.key key ≡ true → p x ≡ false)
        → filter p rest_of ≡ filter p xs
        → filter p (cond (not b) (x ∷ rest_of) rest_of) ≡ cond (p x) (x ∷ filter p xs) (filter p xs)
    by_test true e off rest =
        rest ∙ sym (ap (λ b. cond b (x ∷ filter p xs) (filter p xs)) (off e))
    by_test false e off rest = ap (λ (ys : List Instruction). cond (p x) (x ∷ ys) ys) rest

-- ---- keys that go together

module _ (own : AccountNumber → Bool) where
  -- those behind the first one, with its key, go as it does
  with_first : (o : Instruction) (os : List Instruction) → KeysGoTogether own (o ∷ os)
      → AllByRecursion (λ p. p.key ≡ o.key → is_sent own p ≡ is_sent own o) os
  with_first o os go = all_from _ os (λ i p at same. go (suc i) zero p o at refl same)

  -- and those behind it go together
  behind_first : (o : Instruction) (os : List Instruction) → KeysGoTogether own (o ∷ os)
      → KeysGoTogether own os
  behind_first o os go = λ i j p q at_p at_q same. go (suc i) (suc j) p q at_p at_q same

  pub firsts_sent : (os : List Instruction) → KeysGoTogether own os
      → firsts (sent_to own os) ≡ sent_to own (firsts os)
  firsts_sent [] go = refl
  firsts_sent (o ∷ os) go =
      by_test (is_sent own o) refl (firsts_sent os (behind_first o os go))
      (all_firsts _ os (with_first o os go))
    where
      by_test : (b : Bool) → is_sent own o ≡ b
          → firsts (sent_to own os) ≡ sent_to own (firsts os)
          → AllByRecursion (λ p. p.key ≡ o.key → is_sent own p ≡ is_sent own o) (firsts os)
          → firsts (cond b (o ∷ sent_to own os) (sent_to own os))
          ≡ cond b (o ∷ sent_to own (filter (λ p. not (same_key p.key o.key)) (firsts os)))
          (sent_to own (filter (λ p. not (same_key p.key o.key)) (firsts os)))
      by_test true on rest all =
          ap (λ (xs : List Instruction). o ∷ filter (λ p. not (same_key p.key o.key)) xs) rest
          ∙ ap (λ (xs : List Instruction). o ∷ xs)
          (filter_swap (λ p. not (same_key p.key o.key)) (is_sent own) (firsts os))
      by_test false off rest all =
          rest
          ∙ sym (filter_without (is_sent own) o.key (firsts os)
          (all-weaker (λ (p : Instruction). p.key ≡ o.key → is_sent own p ≡ is_sent own o)
          (λ (p : Instruction). same_key p.key o.key ≡ true → is_sent own p ≡ false)
          (firsts os) (λ p goes same. goes (same_key_is p.key o.key same) ∙ off) all))

  -- each earlier order with the key of the last one goes as the last one does
  pub with_last : (os : List Instruction) (o : Instruction) → KeysGoTogether own (os ++ o ∷ [])
      → AllByRecursion (λ p. o.key ≡ p.key → is_sent own o ≡ is_sent own p) os
  with_last [] o go = tt
  with_last (p ∷ os) o go = (
    all_last (λ (q : Instruction). q.key ≡ p.key → is_sent own q ≡ is_sent own p) os o
        (with_first p (os ++ o ∷ []) go),
    with_last os o (behind_first p (os ++ o ∷ []) go),
  )

-- ---- parts of a list

-- each element of the one list is an element of the other
abbrev IsAmong : List Instruction → List Instruction → Type 0
IsAmong xs ys =
    (i : ℕ) (x : Instruction) → slice_get xs i ≡ Some x → (k : ℕ) × (slice_get ys k ≡ Some x)

among_cons : (x : Instruction) (xs ys : List Instruction) → IsAmong xs ys
    → IsAmong (x ∷ xs) (x ∷ ys)
among_cons x xs ys among zero y h = (zero, h)
among_cons x xs ys among (suc i) y h = let there = among i y h in (suc there.0, there.1)

among_front : (xs : List Instruction) (o : Instruction) (ys : List Instruction)
    → IsAmong (xs ++ o ∷ []) (xs ++ o ∷ ys)
among_front [] o ys zero x h = (zero, h)
among_front [] o ys (suc i) x h = cc
among_front (y ∷ xs) o ys i x h =
    among_cons y (xs ++ o ∷ []) (xs ++ o ∷ ys) (among_front xs o ys) i x h

among_without : (xs : List Instruction) (o : Instruction) (ys : List Instruction)
    → IsAmong (xs ++ ys) (xs ++ o ∷ ys)
among_without [] o ys i x h = (suc i, h)
among_without (y ∷ xs) o ys i x h =
    among_cons y (xs ++ ys) (xs ++ o ∷ ys) (among_without xs o ys) i x h

go_among : (own : AccountNumber → Bool) (xs ys : List Instruction) → IsAmong xs ys
    → KeysGoTogether own ys → KeysGoTogether own xs
go_among own xs ys among go i j o p at_o at_p same =
    let a = among i o at_o in
    let b = among j p at_p in
    go a.0 b.0 o p a.1 b.1 same

-- up to an order, and without it
pub go_front : (own : AccountNumber → Bool) (xs : List Instruction) (o : Instruction)
    (ys : List Instruction) → KeysGoTogether own (xs ++ o ∷ ys)
    → KeysGoTogether own (xs ++ o ∷ [])
go_front own xs o ys = go_among own (xs ++ o ∷ []) (xs ++ o ∷ ys) (among_front xs o ys)

pub go_without : (own : AccountNumber → Bool) (xs : List Instruction) (o : Instruction)
    (ys : List Instruction) → KeysGoTogether own (xs ++ o ∷ ys) → KeysGoTogether own (xs ++ ys)
go_without own xs o ys = go_among own (xs ++ ys) (xs ++ o ∷ ys) (among_without xs o ys)

-- orders of one key that name one account go together
pub one_account : (own : AccountNumber → Bool) (orders : List Instruction)
    → KeysNameOneAccount orders → KeysGoTogether own orders
one_account own orders one = λ i j o p at_o at_p same.
    ap (is_sent_by own) (one i j o p at_o at_p same)
