-- The first order of each key.
use Rattle.std.proofs.Common.{◌≡◌, Bool, true, false, not, refl, arith, ap, sym, ◌∙◌, List, [], ◌∷◌, ◌++◌, cond}
use Rattle.std.specs.Prelude.{◌||◌, filter}
use Rattle.std.proofs.lemmas.List.{append-nil}
use Rattle.std.proofs.lemmas.List.Elements.{filter-append}
use Rattle.iso_order.specs.declared.key.TxKey.{TxKey}
use Rattle.iso_order.specs.Key.{same_key}
use Rattle.iso_order.specs.Order.{Instruction}
use Rattle.iso_issuer.specs.Journal.{firsts, is_entered, HasDistinctKeys}
use Rattle.iso_issuer.proofs.Keys.{same_key_is, same_key_self, same_key_sym}

-- neither side of an `||` that is false
pub neither : (p q : Bool) → p || q ≡ false → (p ≡ false) × (q ≡ false)
neither true q h = cc
neither false q h = (refl, h)

-- an order of another key
abbrev pub is_other : TxKey → Instruction → Bool
is_other k p = not (same_key p.key k)

-- an order whose key is new comes last
pub firsts-new : (os : List Instruction) (o : Instruction) → is_entered os o.key ≡ false → firsts (os ++ o ∷ []) ≡ firsts os ++ o ∷ []
firsts-new [] o h = refl
firsts-new (p ∷ ps) o h =
    let apart = neither (same_key p.key o.key) (is_entered ps o.key) h in
    let e : not (same_key o.key p.key) ≡ true = ap not (same_key_sym o.key p.key ∙ apart.0) in
    ap (λ xs. p ∷ xs)
    (ap (filter (is_other p.key)) (firsts-new ps o apart.1)
    ∙ filter-append (is_other p.key) (firsts ps) (o ∷ [])
    ∙ ap (λ b. filter (is_other p.key) (firsts ps) ++ cond b (o ∷ []) []) e)

-- an order whose key is there changes nothing
pub firsts-known : (os : List Instruction) (o : Instruction) → is_entered os o.key ≡ true → firsts (os ++ o ∷ []) ≡ firsts os
firsts-known [] o h = cc
firsts-known (p ∷ ps) o h = ap (λ xs. p ∷ xs) (by_rest (is_entered ps o.key) refl (firsts-known ps o))
  where
    by_rest : (b : Bool) → is_entered ps o.key ≡ b → (is_entered ps o.key ≡ true → firsts (ps ++ o ∷ []) ≡ firsts ps) →
        filter (is_other p.key) (firsts (ps ++ o ∷ [])) ≡ filter (is_other p.key) (firsts ps)
    by_rest true e known = ap (filter (is_other p.key)) (known e)
    by_rest false e known =
        let same : same_key p.key o.key ≡ true = grind (arith, h, e) in
        let dropped : not (same_key o.key p.key) ≡ false = ap not (same_key_sym o.key p.key ∙ same) in
        ap (filter (is_other p.key)) (firsts-new ps o e)
        ∙ filter-append (is_other p.key) (firsts ps) (o ∷ [])
        ∙ ap (λ b. filter (is_other p.key) (firsts ps) ++ cond b (o ∷ []) []) dropped
        ∙ append-nil _

-- no order is of this key, so each is of another
filter-others : (os : List Instruction) (k : TxKey) → is_entered os k ≡ false → filter (is_other k) os ≡ os
filter-others [] k h = refl
filter-others (o ∷ os) k h =
    let apart = neither (same_key o.key k) (is_entered os k) h in
    ap (λ b. cond (not b) (o ∷ filter (is_other k) os) (filter (is_other k) os)) apart.0
    ∙ ap (λ xs. o ∷ xs) (filter-others os k apart.1)

-- orders of distinct keys are their own first ones
pub firsts-distinct : (os : List Instruction) → HasDistinctKeys os → firsts os ≡ os
firsts-distinct [] distinct = refl
firsts-distinct (o ∷ os) distinct =
    ap (λ xs. o ∷ filter (is_other o.key) xs) (firsts-distinct os distinct.1)
    ∙ ap (λ xs. o ∷ xs) (filter-others os o.key distinct.0)

-- a new key keeps them distinct
pub distinct-push : (os : List Instruction) (o : Instruction) → HasDistinctKeys os → is_entered os o.key ≡ false → HasDistinctKeys (os ++ o ∷ [])
distinct-push [] o distinct new = (refl, tt)
distinct-push (p ∷ ps) o distinct new =
    let apart = neither (same_key p.key o.key) (is_entered ps o.key) new in
    (any_push ps o p.key distinct.0 (same_key_sym o.key p.key ∙ apart.0), distinct-push ps o distinct.1 apart.1)
  where
    any_push : (os : List Instruction) (o : Instruction) (k : TxKey) → is_entered os k ≡ false → same_key o.key k ≡ false → is_entered (os ++ o ∷ []) k ≡ false
    any_push [] o k h new = ap (λ b. b || false) new
    any_push (p ∷ ps) o k h new =
        let apart = neither (same_key p.key k) (is_entered ps k) h in
        ap (λ b. b || is_entered (ps ++ o ∷ []) k) apart.0 ∙ any_push ps o k apart.1 new

-- ---- an order in the middle

filter-swap : {X : Type 0} (p q : X → Bool) (xs : List X) → filter p (filter q xs) ≡ filter q (filter p xs)
filter-swap p q [] = refl
filter-swap p q (x ∷ xs) = by_tests (p x) (q x) refl refl (filter-swap p q xs)
  where
    by_tests : (a b : Bool) → p x ≡ a → q x ≡ b → filter p (filter q xs) ≡ filter q (filter p xs) →
        filter p (cond b (x ∷ filter q xs) (filter q xs)) ≡ filter q (cond a (x ∷ filter p xs) (filter p xs))
    by_tests true true e f rest = rw (e, f) (ap (λ ys. x ∷ ys) rest)
    by_tests true false e f rest = rw f rest
    by_tests false true e f rest = rw e rest
    by_tests false false e f rest = rest

filter-twice : {X : Type 0} (p : X → Bool) (xs : List X) → filter p (filter p xs) ≡ filter p xs
filter-twice p [] = refl
filter-twice p (x ∷ xs) = by_test (p x) refl (filter-twice p xs)
  where
    by_test : (a : Bool) → p x ≡ a → filter p (filter p xs) ≡ filter p xs → filter p (cond a (x ∷ filter p xs) (filter p xs)) ≡ cond a (x ∷ filter p xs) (filter p xs)
    by_test true e rest = rw e (ap (λ ys. x ∷ ys) rest)
    by_test false e rest = rest

-- among the orders of other keys, an order makes no difference
filter-skip : (k : TxKey) (xs : List Instruction) (o : Instruction) (ys : List Instruction) → o.key ≡ k →
    filter (is_other k) (firsts (xs ++ o ∷ ys)) ≡ filter (is_other k) (firsts (xs ++ ys))
filter-skip k [] o ys h =
    let dropped : is_other k o ≡ false = ap not (ap (same_key o.key) (sym h) ∙ same_key_self o.key) in
    ap (λ b. cond b (o ∷ filter (is_other k) (filter (is_other o.key) (firsts ys))) (filter (is_other k) (filter (is_other o.key) (firsts ys)))) dropped
    ∙ ap (λ q. filter (is_other k) (filter (is_other q) (firsts ys))) h
    ∙ filter-twice (is_other k) (firsts ys)
filter-skip k (x ∷ xs) o ys h =
    ap (λ zs. cond (is_other k x) (x ∷ zs) zs)
    (filter-swap (is_other k) (is_other x.key) (firsts (xs ++ o ∷ ys))
    ∙ ap (filter (is_other x.key)) (filter-skip k xs o ys h)
    ∙ filter-swap (is_other x.key) (is_other k) (firsts (xs ++ ys)))

-- an order whose key was there before changes nothing, wherever it stands
pub firsts-skip : (xs : List Instruction) (o : Instruction) (ys : List Instruction) → is_entered xs o.key ≡ true → firsts (xs ++ o ∷ ys) ≡ firsts (xs ++ ys)
firsts-skip [] o ys h = cc
firsts-skip (x ∷ xs) o ys h = ap (λ zs. x ∷ zs) (by_test (same_key x.key o.key) refl h (firsts-skip xs o ys))
  where
    by_test : (b : Bool) → same_key x.key o.key ≡ b → b || is_entered xs o.key ≡ true → (is_entered xs o.key ≡ true → firsts (xs ++ o ∷ ys) ≡ firsts (xs ++ ys)) →
        filter (is_other x.key) (firsts (xs ++ o ∷ ys)) ≡ filter (is_other x.key) (firsts (xs ++ ys))
    by_test true e any rest = filter-skip x.key xs o ys (sym (same_key_is x.key o.key e))
    by_test false e any rest = ap (filter (is_other x.key)) (rest any)
