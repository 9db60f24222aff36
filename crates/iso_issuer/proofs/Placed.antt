-- The table of places, once an order of a new key has come behind the others.
use Rattle.std.proofs.Common.{◌≡◌, ℕ, zero, suc, ◌+◌, ◌-◌, ◌<◌, ◌≤◌, Bool, true, false, cond, refl, arith, ap, sym, ◌∙◌, List, [], ◌∷◌, ◌++◌, length, take, drop, set, inl, inr, ◌⊎◌}
use Rattle.std.specs.Prelude.{Option, Some, None, slice_get, nat_le}
use Rattle.std.specs.List.{position_from}
use Rattle.std.specs.Option.{option_or}
use Rattle.std.specs.Ordering.{is_eq}
use Rattle.std.specs.BTreeMap as tree
use Rattle.std.specs.BTreeMap.{BTreeMap}
use Rattle.std.proofs.lemmas.Bool.{cases_lt}
use Rattle.std.proofs.lemmas.Bool.Decides.{nat_tests}
use Rattle.std.proofs.lemmas.List.{length-set, length-take, drop-set-lt, drop-set-add, take-set-le}
use Rattle.std.proofs.Math.Seq.{take-set-lt}
use Rattle.iso_order.specs.declared.key.TxKey.{TxKey}
use Rattle.iso_order.specs.Key.{same_key}
use Rattle.iso_order.specs.Order.{Instruction}
use Rattle.iso_issuer.specs.declared.key_places.Slot.{Slot}
use Rattle.iso_issuer.specs.Index.{key_cmp}
use Rattle.iso_issuer.specs.Journal.{HasDistinctKeys}
use Rattle.iso_issuer.specs.Places.{tag_of, start_of, window_of, is_free, sought, checked, found, key_place, TellsPlaces, IsFreeFor}
use Rattle.iso_issuer.proofs.Keys.{same_key_is}
use Rattle.iso_issuer.proofs.ByKey.{key_tied}
use Rattle.iso_issuer.proofs.Places.{place-below}
use Rattle.iso_issuer.proofs.Slots.{key-place-has, has-other, has-last, has-only, has-past, key-place-push, sought-has, sought-alike, checked-alike, sought-kept, sought-taken}

-- ---- the slots of a window

get-drop : {X : Type 0} (l : List X) (n i : ℕ) → slice_get (drop n l) i ≡ slice_get l (n + i)
get-drop l zero i = ap (slice_get l) (omega arith)
get-drop [] (suc n) i = refl
get-drop (x ∷ l) (suc n) i =
    let next : suc n + i ≡ suc (n + i) = omega arith in
    get-drop l n i ∙ sym (ap (slice_get (x ∷ l)) next)

get-take : {X : Type 0} (l : List X) (n i : ℕ) → i < n → slice_get (take n l) i ≡ slice_get l i
get-take l zero i h = absurd (omega (arith, h))
get-take [] (suc n) i h = refl
get-take (x ∷ l) (suc n) zero h = refl
get-take (x ∷ l) (suc n) (suc i) h = get-take l n i (omega (arith, h))

pub place-from : {X : Type 0} (t : X → Bool) (j : ℕ) (xs : List X) (p : ℕ) → position_from t j xs ≡ Some p → j ≤ p
place-from t j [] p h = cc
place-from t j (x ∷ xs) p h = by_test (t x) h (λ more. place-from t (j + 1) xs p more)
  where
    by_test : (b : Bool) → cond b (Some j) (position_from t (j + 1) xs) ≡ Some p → (position_from t (j + 1) xs ≡ Some p → j + 1 ≤ p) → j ≤ p
    by_test true h rest =
        let same : j ≡ p = cc in
        omega arith
    by_test false h rest = omega (arith, rest h)

-- what is found first is there, and passes
first-there : {X : Type 0} (t : X → Bool) (j i : ℕ) (xs : List X) → position_from t j xs ≡ Some (j + i) → (x : X) × (slice_get xs i ≡ Some x) × (t x ≡ true)
first-there t j i [] h = cc
first-there {X} t j zero (x ∷ xs) h = by_test (t x) refl h
  where
    by_test : (b : Bool) → t x ≡ b → cond b (Some j) (position_from t (j + 1) xs) ≡ Some (j + zero) → (y : X) × (Some x ≡ Some y) × (t y ≡ true)
    by_test true e f = (x, refl, e)
    by_test false e f = absurd (omega (arith, place-from t (j + 1) xs (j + zero) f))
first-there {X} t j (suc i) (x ∷ xs) h = by_test (t x) h (λ more. first-there t (j + 1) i xs more)
  where
    by_test : (b : Bool) → cond b (Some j) (position_from t (j + 1) xs) ≡ Some (j + suc i) →
        (position_from t (j + 1) xs ≡ Some (j + 1 + i) → (y : X) × (slice_get xs i ≡ Some y) × (t y ≡ true)) → (y : X) × (slice_get xs i ≡ Some y) × (t y ≡ true)
    by_test true f rest =
        let same : j ≡ j + suc i = cc in
        absurd (omega (arith, same))
    by_test false f rest = rest (f ∙ ap Some (omega arith))

short_by : (b : Bool) (l : List Slot) → length (cond b [] (take 16 l)) ≤ 16
short_by true l = omega arith
short_by false l = omega (arith, length-take 16 l)

window-short : (slots : List Slot) (q : TxKey) → length (window_of slots q) ≤ 16
unfolding window_of
window-short slots q = short_by (nat_le (length slots) 16) (drop (start_of (length slots) q) slots)

-- what is found in a window lies within the table
pub window-inside : (slots : List Slot) (q : TxKey) (i : ℕ) → position_from is_free 0 (window_of slots q) ≡ Some i → i < 16
window-inside slots q i first = omega (arith, place-below is_free 0 (window_of slots q) i first, window-short slots q)

long_is : (n : ℕ) → 16 < n → nat_le n 16 ≡ false
long_is n h = grind (arith, nat_tests)

-- the window of a table that has one
pub window-is : (slots : List Slot) (q : TxKey) → 16 < length slots → window_of slots q ≡ take 16 (drop (start_of (length slots) q) slots)
unfolding window_of
window-is slots q long = ap (λ (b : Bool). cond b [] (take 16 (drop (start_of (length slots) q) slots))) (long_is (length slots) long)

-- a short table has no window
pub window-empty : (slots : List Slot) (q : TxKey) → length slots ≤ 16 → window_of slots q ≡ []
unfolding window_of
window-empty slots q short =
    let few : nat_le (length slots) 16 ≡ true = grind (arith, nat_tests) in
    ap (λ (b : Bool). cond b [] (take 16 (drop (start_of (length slots) q) slots))) few

window-get : (slots : List Slot) (q : TxKey) (i : ℕ) → 16 < length slots → i < 16 → slice_get (window_of slots q) i ≡ slice_get slots (start_of (length slots) q + i)
window-get slots q i long h =
    ap (λ (w : List Slot). slice_get w i) (window-is slots q long) ∙ get-take (drop (start_of (length slots) q) slots) 16 i h
    ∙ get-drop slots (start_of (length slots) q) i

-- a slot of the window is set
window-own : (slots : List Slot) (at i : ℕ) (s : Slot) (q : TxKey) → 16 < length slots → i < 16 → at ≡ start_of (length slots) q + i →
    window_of (set slots at s) q ≡ set (window_of slots q) i s
window-own slots at i s q long h there =
    let st = start_of (length slots) q in
    let long_set : 16 < length (set slots at s) = omega (arith, long, length-set slots at s) in
    window-is (set slots at s) q long_set
    ∙ ap (λ (n : ℕ). take 16 (drop (start_of n q) (set slots at s))) (length-set slots at s)
    ∙ ap (λ (a : ℕ). take 16 (drop st (set slots a s))) there
    ∙ ap (take 16) (drop-set-add st slots i s)
    ∙ take-set-lt 16 (drop st slots) i s h
    ∙ sym (ap (λ (w : List Slot). set w i s) (window-is slots q long))

-- a slot that is set stands in the window of a key, or nothing changes there
abbrev pub Changes : List Slot → ℕ → Slot → TxKey → ℕ → Type 0
Changes slots at s q i = (at ≡ start_of (length slots) q + i) × (i < 16) × (16 < length slots) × (window_of (set slots at s) q ≡ set (window_of slots q) i s)

window-none : (slots : List Slot) (at : ℕ) (s : Slot) (q : TxKey) → length slots ≤ 16 → window_of (set slots at s) q ≡ window_of slots q
window-none slots at s q short =
    window-empty (set slots at s) q (omega (arith, length-set slots at s)) ∙ sym (window-empty slots q short)

window-other : (slots : List Slot) (at : ℕ) (s : Slot) (q : TxKey) → 16 < length slots →
    take 16 (drop (start_of (length slots) q) (set slots at s)) ≡ take 16 (drop (start_of (length slots) q) slots) → window_of (set slots at s) q ≡ window_of slots q
window-other slots at s q long same =
    let long_set : 16 < length (set slots at s) = omega (arith, long, length-set slots at s) in
    window-is (set slots at s) q long_set ∙ ap (λ (n : ℕ). take 16 (drop (start_of n q) (set slots at s))) (length-set slots at s)
    ∙ same ∙ sym (window-is slots q long)

window-set : (slots : List Slot) (at : ℕ) (s : Slot) (q : TxKey) → (window_of (set slots at s) q ≡ window_of slots q) ⊎ ((i : ℕ) × Changes slots at s q i)
window-set slots at s q = by_length (cases_lt 16 (length slots))
  where
    st : ℕ
    st = start_of (length slots) q

    behind : 16 < length slots → st ≤ at → (at - st < 16) ⊎ (16 ≤ at - st) → (window_of (set slots at s) q ≡ window_of slots q) ⊎ ((i : ℕ) × Changes slots at s q i)
    behind long above (inl h) =
        let there : at ≡ st + (at - st) = omega arith in
        inr (at - st, (there, h, long, window-own slots at (at - st) s q long h there))
    behind long above (inr h) =
        let there : at ≡ st + (at - st) = omega arith in
        inl
        (window-other slots at s q long
        (ap (λ (a : ℕ). take 16 (drop st (set slots a s))) there ∙ ap (take 16) (drop-set-add st slots (at - st) s)
        ∙ take-set-le 16 (drop st slots) (at - st) s h))

    by_place : 16 < length slots → (at < st) ⊎ (st ≤ at) → (window_of (set slots at s) q ≡ window_of slots q) ⊎ ((i : ℕ) × Changes slots at s q i)
    by_place long (inl h) = inl (window-other slots at s q long (ap (take 16) (drop-set-lt st slots at s h)))
    by_place long (inr h) = behind long h (cases_lt (at - st) 16)

    by_length : (16 < length slots) ⊎ (length slots ≤ 16) → (window_of (set slots at s) q ≡ window_of slots q) ⊎ ((i : ℕ) × Changes slots at s q i)
    by_length (inl long) = by_place long (cases_lt at st)
    by_length (inr short) = inl (window-none slots at s q short)

-- ---- one order more

-- another key is told as before, whatever order comes behind the others
other-alike : (slots : List Slot) (others : BTreeMap TxKey ℕ) (os : List Instruction) (o : Instruction) (q : TxKey) → same_key o.key q ≡ false →
    found slots others (os ++ o ∷ []) q ≡ found slots others os q
other-alike slots others os o q e =
    ap (λ (r : Option ℕ). option_or r (checked (tree.get key_cmp others q) (os ++ o ∷ []) q))
    (sought-alike (window_of slots q) (tag_of q) (os ++ o ∷ []) os q (λ p. has-other os o p q e))
    ∙ ap (option_or (sought (window_of slots q) (tag_of q) os q)) (checked-alike (tree.get key_cmp others q) (os ++ o ∷ []) os q (λ p. has-other os o p q e))

place-other : (os : List Instruction) (o : Instruction) (q : TxKey) → key_place os o.key ≡ None → same_key o.key q ≡ false → key_place os q ≡ key_place (os ++ o ∷ []) q
place-other os o q new e = sym (key-place-push os o q new ∙ ap (λ (b : Bool). cond b (Some (length os)) (key_place os q)) e)

place-own : (os : List Instruction) (o : Instruction) (q : TxKey) → key_place os o.key ≡ None → same_key o.key q ≡ true → Some (length os) ≡ key_place (os ++ o ∷ []) q
place-own os o q new e = sym (key-place-push os o q new ∙ ap (λ (b : Bool). cond b (Some (length os)) (key_place os q)) e)

-- the key stands in the first slot that was free for it
pub told-slot : (slots : List Slot) (others : BTreeMap TxKey ℕ) (os : List Instruction) (o : Instruction) (at : ℕ) (s : Slot) → TellsPlaces slots others os → HasDistinctKeys os →
    key_place os o.key ≡ None → IsFreeFor slots o.key at → s.tag ≡ tag_of o.key → s.number ≡ length os + 1 → TellsPlaces (set slots at s) others (os ++ o ∷ [])
told-slot slots others os o at s tells distinct new free tag number q = by_key (same_key o.key q) refl
  where
    inside : free.behind < 16
    inside = window-inside slots o.key free.behind free.first

    told : sought (window_of (set slots at s) o.key) (tag_of o.key) (os ++ o ∷ []) o.key ≡ Some (length os)
    told =
        ap (λ (w : List Slot). sought w (tag_of o.key) (os ++ o ∷ []) o.key) (window-own slots at free.behind s o.key free.long inside free.there)
        ∙ ap (λ (t : ℕ). sought (set (window_of slots o.key) free.behind s) t (os ++ o ∷ []) o.key) (sym tag)
        ∙ sought-taken (window_of slots o.key) 0 free.behind (length os) s (os ++ o ∷ []) o.key (free.first ∙ ap Some (omega arith)) number
        (λ p has. has-only os o p new has) (has-last os o)

    at_free : (i : ℕ) → at ≡ start_of (length slots) q + i → i < 16 → (f : Slot) × (slice_get (window_of slots q) i ≡ Some f) × (is_free f ≡ true)
    at_free i there h =
        let f = first-there is_free 0 free.behind (window_of slots o.key) (free.first ∙ ap Some (omega arith)) in
        let where_it_is : slice_get (window_of slots q) i ≡ slice_get slots at = window-get slots q i free.long h ∙ ap (slice_get slots) (sym there) in
        let own : slice_get (window_of slots o.key) free.behind ≡ slice_get slots at =
        window-get slots o.key free.behind free.long inside ∙ ap (slice_get slots) (sym free.there) in
        (f.0, where_it_is ∙ sym own ∙ f.1, f.2)

    apart : Option ℕ
    apart = checked (tree.get key_cmp others q) os q

    by_new : sought (window_of slots q) (tag_of q) os q ≡ None → (i : ℕ) (r : Option ℕ) → sought (set (window_of slots q) i s) (tag_of q) os q ≡ r → option_or r apart ≡ key_place os q
    by_new none i None e = ap (λ (r : Option ℕ). option_or r apart) (sym none) ∙ tells q
    by_new none i (Some p) e = sym (key-place-has os p q distinct (sought-has (set (window_of slots q) i s) (tag_of q) os q p e))

    by_told : (i : ℕ) → at ≡ start_of (length slots) q + i → i < 16 → (r : Option ℕ) → sought (window_of slots q) (tag_of q) os q ≡ r →
        option_or (sought (set (window_of slots q) i s) (tag_of q) os q) apart ≡ key_place os q
    by_told i there h None e = by_new e i (sought (set (window_of slots q) i s) (tag_of q) os q) refl
    by_told i there h (Some p) e =
        let f = at_free i there h in
        ap (λ (r : Option ℕ). option_or r apart) (sought-kept (window_of slots q) i f.0 s (tag_of q) os q p f.1 f.2 e)
        ∙ ap (λ (r : Option ℕ). option_or r apart) (sym e) ∙ tells q

    kept : (window_of (set slots at s) q ≡ window_of slots q) ⊎ ((i : ℕ) × Changes slots at s q i) → found (set slots at s) others os q ≡ key_place os q
    kept (inl same) = ap (λ (w : List Slot). option_or (sought w (tag_of q) os q) apart) same ∙ tells q
    kept (inr h) =
        ap (λ (w : List Slot). option_or (sought w (tag_of q) os q) apart) h.1.3 ∙ by_told h.0 h.1.0 h.1.1 (sought (window_of slots q) (tag_of q) os q) refl

    by_key : (b : Bool) → same_key o.key q ≡ b → found (set slots at s) others (os ++ o ∷ []) q ≡ key_place (os ++ o ∷ []) q
    by_key true e =
        ap (found (set slots at s) others (os ++ o ∷ [])) (sym (same_key_is o.key q e))
        ∙ ap (λ (r : Option ℕ). option_or r (checked (tree.get key_cmp others o.key) (os ++ o ∷ []) o.key)) told ∙ place-own os o q new e
    by_key false e = other-alike (set slots at s) others os o q e ∙ kept (window-set slots at s q) ∙ place-other os o q new e

-- the tree has the place of the key
pub told-apart : (slots : List Slot) (others : BTreeMap TxKey ℕ) (os : List Instruction) (o : Instruction) → TellsPlaces slots others os →
    key_place os o.key ≡ None → tree.get key_cmp others o.key ≡ Some (length os) → TellsPlaces slots others (os ++ o ∷ [])
told-apart slots others os o tells new there q = by_key (same_key o.key q) refl
  where
    own : (r : Option ℕ) → sought (window_of slots o.key) (tag_of o.key) (os ++ o ∷ []) o.key ≡ r →
        option_or r (checked (tree.get key_cmp others o.key) (os ++ o ∷ []) o.key) ≡ Some (length os)
    own None e =
        ap (λ (g : Option ℕ). checked g (os ++ o ∷ []) o.key) there ∙ ap (λ (b : Bool). cond b (Some (length os)) None) (has-last os o)
    own (Some p) e = ap Some (has-only os o p new (sought-has (window_of slots o.key) (tag_of o.key) (os ++ o ∷ []) o.key p e))

    by_key : (b : Bool) → same_key o.key q ≡ b → found slots others (os ++ o ∷ []) q ≡ key_place (os ++ o ∷ []) q
    by_key true e =
        ap (found slots others (os ++ o ∷ [])) (sym (same_key_is o.key q e))
        ∙ own (sought (window_of slots o.key) (tag_of o.key) (os ++ o ∷ []) o.key) refl ∙ place-own os o q new e
    by_key false e = other-alike slots others os o q e ∙ tells q ∙ place-other os o q new e

-- what the tree has of a key that no order has changes nothing that is told
pub told-anyway : (slots : List Slot) (others changed : BTreeMap TxKey ℕ) (os : List Instruction) (k : TxKey) (v : Option ℕ) → TellsPlaces slots others os →
    key_place os k ≡ None → checked v os k ≡ None →
    ((q : TxKey) → tree.get key_cmp changed q ≡ cond (is_eq (key_cmp k q)) v (tree.get key_cmp others q)) → TellsPlaces slots changed os
told-anyway slots others changed os k v tells new none change q =
    ap (λ (g : Option ℕ). option_or (sought (window_of slots q) (tag_of q) os q) (checked g os q))
    (change q ∙ ap (λ (b : Bool). cond b v (tree.get key_cmp others q)) (key_tied k q))
    ∙ by_key (same_key k q) refl
  where
    first_none : (a b : Option ℕ) → option_or a b ≡ None → a ≡ None
    first_none None b h = refl
    first_none (Some x) b h = h

    unsought : sought (window_of slots k) (tag_of k) os k ≡ None
    unsought = first_none (sought (window_of slots k) (tag_of k) os k) (checked (tree.get key_cmp others k) os k) (tells k ∙ new)

    by_key : (b : Bool) → same_key k q ≡ b → option_or (sought (window_of slots q) (tag_of q) os q) (checked (cond b v (tree.get key_cmp others q)) os q) ≡ key_place os q
    by_key true e =
        ap (λ (j : TxKey). option_or (sought (window_of slots j) (tag_of j) os j) (checked v os j)) (sym (same_key_is k q e))
        ∙ ap (λ (r : Option ℕ). option_or r (checked v os k)) unsought ∙ none ∙ sym new ∙ ap (key_place os) (same_key_is k q e)
    by_key false e = tells q

-- no order has a key yet that is behind the last one
pub unchecked : (os : List Instruction) (n : ℕ) (k : TxKey) → length os ≤ n → checked (Some n) os k ≡ None
unchecked os n k past = ap (λ (b : Bool). cond b (Some n) None) (has-past os n k past)

-- where there is no order, nothing is told
pub told-nothing : (slots : List Slot) (others : BTreeMap TxKey ℕ) → TellsPlaces slots others []
told-nothing slots others q = by_slot (sought (window_of slots q) (tag_of q) [] q) refl (tree.get key_cmp others q)
  where
    by_slot : (r : Option ℕ) → sought (window_of slots q) (tag_of q) [] q ≡ r → (g : Option ℕ) → option_or r (checked g [] q) ≡ None
    by_slot None e None = refl
    by_slot None e (Some p) = refl
    by_slot (Some p) e g =
        let has : false ≡ true = sought-has (window_of slots q) (tag_of q) [] q p e in
        cc
