-- Two sums over a journal that differ only in what stands under one key, or under two.
use Rattle.std.proofs.Common.{◌≡◌, ℕ, Bool, true, false, refl, arith, ap, sym, ◌∙◌, subst, List, [], ◌∷◌, ◌++◌, ◌+◌, cond}
use Rattle.std.specs.Prelude.{Option, Some, None, map, sum_by, option_and_then}
use Rattle.std.proofs.lemmas.List.Sums.{sum_by-append, sum_by-cons}
use Rattle.iso_order.specs.declared.key.TxKey.{TxKey}
use Rattle.iso_order.specs.Key.{same_key, class_digit}
use Rattle.iso_issuer.specs.declared.journal.Entry.{Entry}
use Rattle.iso_issuer.specs.Effect.{is_key}
use Rattle.iso_issuer.specs.Journal.{entry_at, HasDistinctKeys}
use Rattle.iso_issuer.proofs.Keys.{same_key_is, same_key_sym}
use Rattle.iso_issuer.proofs.Entries.{entered-found}
use Rattle.iso_issuer.proofs.Documents.{is_none-of}

sum-same : {X : Type 0} (f g : X → ℕ) (xs : List X) → ((x : X) → f x ≡ g x) → sum_by f xs ≡ sum_by g xs
sum-same f g [] h = refl
sum-same f g (x ∷ xs) h = omega (arith, h x, sum-same f g xs h, sum_by-cons f x xs, sum_by-cons g x xs)

-- what an entry counts for, where there is one
abbrev pub at : (Entry → ℕ) → Option Entry → ℕ
at f None = 0
at f (Some e) = f e

-- the entry under a key
abbrev pub under : List Entry → Option TxKey → Option Entry
under es k = option_and_then (entry_at es) k

-- over distinct keys, sums of what differs only under one key differ by what is found there
pub sum-at : (f g : Entry → ℕ) (k : Option TxKey) (es : List Entry) → HasDistinctKeys (map (λ e. e.order) es) →
    ((x : Entry) → is_key k x.order.key ≡ false → f x ≡ g x) →
    sum_by g es + at f (under es k) ≡ sum_by f es + at g (under es k)
sum-at f g None es distinct same = omega (arith, sum-same f g es (λ x. same x refl))
sum-at f g (Some k) [] distinct same = refl
sum-at f g (Some k) (e ∷ es) distinct same = by_test (same_key e.order.key k) refl (sum-at f g (Some k) es distinct.1 same)
  where
    by_test : (b : Bool) → same_key e.order.key k ≡ b → sum_by g es + at f (entry_at es k) ≡ sum_by f es + at g (entry_at es k) →
        sum_by g (e ∷ es) + at f (cond b (Some e) (entry_at es k)) ≡ sum_by f (e ∷ es) + at g (cond b (Some e) (entry_at es k))
    by_test true h rest =
        let apart : entry_at es e.order.key ≡ None = is_none-of (entry_at es e.order.key) (sym (entered-found es e.order.key) ∙ distinct.0) in
        let none : entry_at es k ≡ None = ap (entry_at es) (sym (same_key_is e.order.key k h)) ∙ apart in
        let tail : sum_by g es + at f None ≡ sum_by f es + at g None = subst (λ o. sum_by g es + at f o ≡ sum_by f es + at g o) none rest in
        omega (arith, tail, sum_by-cons f e es, sum_by-cons g e es)
    by_test false h rest =
        let head : f e ≡ g e = same e (same_key_sym k e.order.key ∙ h) in
        omega (arith, rest, head, sum_by-cons f e es, sum_by-cons g e es)

-- what is found under a key has it
pub found-key : (es : List Entry) (k : TxKey) (x : Entry) → entry_at es k ≡ Some x → same_key k x.order.key ≡ true
found-key [] k x h = cc
found-key (e ∷ es) k x h = by_test (same_key e.order.key k) refl h (found-key es k x)
  where
    by_test : (b : Bool) → same_key e.order.key k ≡ b → cond b (Some e) (entry_at es k) ≡ Some x → (entry_at es k ≡ Some x → same_key k x.order.key ≡ true) →
        same_key k x.order.key ≡ true
    by_test true t is rest =
        let same : e ≡ x = cc in
        subst (λ (y : Entry). same_key k y.order.key ≡ true) same (same_key_sym k e.order.key ∙ t)
    by_test false t is rest = rest is

-- what differs nowhere under a key counts the same there
at-same : (f g : Entry → ℕ) (k : Option TxKey) (es : List Entry) → ((x : Entry) → is_key k x.order.key ≡ true → f x ≡ g x) → at f (under es k) ≡ at g (under es k)
at-same f g None es same = refl
at-same f g (Some k) es same = by_found (entry_at es k) (λ x h. same x (found-key es k x h))
  where
    by_found : (o : Option Entry) → ((x : Entry) → o ≡ Some x → f x ≡ g x) → at f o ≡ at g o
    by_found None s = refl
    by_found (Some x) s = s x refl

-- sums of what differs only under two keys
pub sum-at-two : (f g : Entry → ℕ) (k l : Option TxKey) (es : List Entry) → HasDistinctKeys (map (λ e. e.order) es) →
    ((q : TxKey) → is_key l q ≡ true → is_key k q ≡ false) →
    ((x : Entry) → is_key k x.order.key ≡ false → is_key l x.order.key ≡ false → f x ≡ g x) →
    sum_by g es + at f (under es k) + at f (under es l) ≡ sum_by f es + at g (under es k) + at g (under es l)
sum-at-two f g k l es distinct apart same =
    let h : Entry → ℕ = λ x. cond (is_key k x.order.key) (g x) (f x) in
    let first = sum-at f h k es distinct (λ x other. sym (ap (λ b. cond b (g x) (f x)) other)) in
    let second = sum-at h g l es distinct (λ x other. either x (is_key k x.order.key) (λ t. same x t other)) in
    let there : at h (under es k) ≡ at g (under es k) = at-same h g k es (λ x t. ap (λ b. cond b (g x) (f x)) t) in
    let here : at h (under es l) ≡ at f (under es l) = at-same h f l es (λ x t. ap (λ b. cond b (g x) (f x)) (apart x.order.key t)) in
    omega (arith, first, second, there, here)
  where
    either : (x : Entry) (b : Bool) → (b ≡ false → f x ≡ g x) → cond b (g x) (f x) ≡ g x
    either x true s = refl
    either x false s = s refl

last : (g : Entry → ℕ) (es : List Entry) (e : Entry) → sum_by g (es ++ e ∷ []) ≡ sum_by g es + g e
last g es e = sum_by-append g es (e ∷ []) ∙ ap (λ n. sum_by g es + n) (omega (arith, sum_by-cons g e []))

-- and after one entry more
pub sum-entered : (f g : Entry → ℕ) (k : Option TxKey) (es : List Entry) (e : Entry) → HasDistinctKeys (map (λ e. e.order) es) →
    ((x : Entry) → is_key k x.order.key ≡ false → f x ≡ g x) →
    sum_by g (es ++ e ∷ []) + at f (under es k) ≡ sum_by f es + g e + at g (under es k)
sum-entered f g k es e distinct same = omega (arith, last g es e, sum-at f g k es distinct same)

pub sum-entered-two : (f g : Entry → ℕ) (k l : Option TxKey) (es : List Entry) (e : Entry) → HasDistinctKeys (map (λ e. e.order) es) →
    ((q : TxKey) → is_key l q ≡ true → is_key k q ≡ false) →
    ((x : Entry) → is_key k x.order.key ≡ false → is_key l x.order.key ≡ false → f x ≡ g x) →
    sum_by g (es ++ e ∷ []) + at f (under es k) + at f (under es l) ≡ sum_by f es + g e + at g (under es k) + at g (under es l)
sum-entered-two f g k l es e distinct apart same = omega (arith, last g es e, sum-at-two f g k l es distinct apart same)

-- what is found under a key, of another class than this key
pub apart-found : (es : List Entry) (k : Option TxKey) (r : Entry) (q : TxKey) → under es k ≡ Some r → class_digit q ≡ 1 → class_digit r.order.key ≡ 2 → is_key k q ≡ false
apart-found es None r q found hold posted = refl
apart-found es (Some k) r q found hold posted = by_test (same_key k q) refl
  where
    by_test : (b : Bool) → same_key k q ≡ b → b ≡ false
    by_test false t = refl
    by_test true t =
        let one : class_digit k ≡ 1 = ap class_digit (same_key_is k q t) ∙ hold in
        let two : class_digit k ≡ 2 = ap class_digit (same_key_is k r.order.key (found-key es k r found)) ∙ posted in
        absurd (differ (class_digit k) one two)
      where
        differ : (n : ℕ) → n ≡ 1 → n ≡ 2 → ⊥
        differ n h k = omega (arith, h, k)
