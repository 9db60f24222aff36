-- What the table of places tells of a key, and what one order more changes.
use Rattle.std.proofs.Common.{◌≡◌, ℕ, zero, suc, ◌+◌, ◌-◌, ◌≤◌, Bool, true, false, cond, refl, arith, ap, sym, ◌∙◌, List, [], ◌∷◌, ◌++◌, length, set, take}
use Rattle.std.specs.Prelude.{Option, Some, None, slice_get, ◌==◌, ◌&&◌, ◌||◌}
use Rattle.std.specs.List.{position_from}
use Rattle.std.proofs.lemmas.Grind.{common_steps}
use Rattle.iso_order.specs.declared.key.TxKey.{TxKey}
use Rattle.iso_order.specs.Key.{same_key}
use Rattle.iso_order.specs.Order.{Instruction}
use Rattle.iso_issuer.specs.declared.key_places.Slot.{Slot}
use Rattle.iso_issuer.specs.Journal.{is_entered, HasDistinctKeys}
use Rattle.iso_issuer.specs.Places.{is_free, is_of, has_key, sought, checked, key_place}
use Rattle.iso_issuer.proofs.Keys.{same_key_is, same_key_self}
use Rattle.iso_issuer.proofs.Places.{place-push, found-none}

-- ---- the keys of orders

-- an order with a key is entered
entered-has : (os : List Instruction) (p : ℕ) (q : TxKey) → has_key os p q ≡ true → is_entered os q ≡ true
entered-has [] p q h = cc
entered-has (o ∷ os) zero q h = ap (λ (b : Bool). b || is_entered os q) h
entered-has (o ∷ os) (suc p) q h = by_test (same_key o.key q) (entered-has os p q h)
  where
    by_test : (b : Bool) → is_entered os q ≡ true → b || is_entered os q ≡ true
    by_test true rest = refl
    by_test false rest = rest

-- where keys are distinct, an order that has a key is the one at the key's place
place-has : (os : List Instruction) (i p : ℕ) (q : TxKey) → HasDistinctKeys os → has_key os p q ≡ true → position_from (λ o. same_key o.key q) i os ≡ Some (i + p)
place-has [] i p q distinct h = cc
place-has (o ∷ os) i zero q distinct h =
    ap (λ (b : Bool). cond b (Some i) (position_from (λ o. same_key o.key q) (i + 1) os)) h ∙ ap Some (omega arith)
place-has (o ∷ os) i (suc p) q distinct h = by_test (same_key o.key q) refl (place-has os (i + 1) p q distinct.1 h)
  where
    by_test : (b : Bool) → same_key o.key q ≡ b → position_from (λ o. same_key o.key q) (i + 1) os ≡ Some (i + 1 + p) →
        cond b (Some i) (position_from (λ o. same_key o.key q) (i + 1) os) ≡ Some (i + suc p)
    by_test true e rest =
        let entered : is_entered os q ≡ true = entered-has os p q h in
        let apart : is_entered os q ≡ false = ap (is_entered os) (sym (same_key_is o.key q e)) ∙ distinct.0 in
        cc
    by_test false e rest = rest ∙ ap Some (omega arith)

pub key-place-has : (os : List Instruction) (p : ℕ) (q : TxKey) → HasDistinctKeys os → has_key os p q ≡ true → key_place os q ≡ Some p
key-place-has os p q distinct h = place-has os 0 p q distinct h ∙ ap Some (omega arith)

-- an order more has no other key
pub has-other : (os : List Instruction) (o : Instruction) (p : ℕ) (q : TxKey) → same_key o.key q ≡ false → has_key (os ++ o ∷ []) p q ≡ has_key os p q
has-other [] o zero q e = e
has-other [] o (suc p) q e = refl
has-other (x ∷ os) o zero q e = refl
has-other (x ∷ os) o (suc p) q e = has-other os o p q e

-- it has its own
pub has-last : (os : List Instruction) (o : Instruction) → has_key (os ++ o ∷ []) (length os) o.key ≡ true
has-last [] o = same_key_self o.key
has-last (x ∷ os) o = has-last os o

-- and is the only one that has it, where the key is new
has-only_from : (os : List Instruction) (o : Instruction) (i p : ℕ) → position_from (λ x. same_key x.key o.key) i os ≡ None → has_key (os ++ o ∷ []) p o.key ≡ true → p ≡ length os
has-only_from [] o i zero new h = refl
has-only_from [] o i (suc p) new h = cc
has-only_from (x ∷ os) o i zero new h =
    let some : Some i ≡ None = sym (ap (λ (b : Bool). cond b (Some i) (position_from (λ x. same_key x.key o.key) (i + 1) os)) h) ∙ new in
    cc
has-only_from (x ∷ os) o i (suc p) new h = by_test (same_key x.key o.key) new (λ n. has-only_from os o (i + 1) p n h)
  where
    by_test : (b : Bool) → cond b (Some i) (position_from (λ x. same_key x.key o.key) (i + 1) os) ≡ None →
        (position_from (λ x. same_key x.key o.key) (i + 1) os ≡ None → p ≡ length os) → suc p ≡ length (x ∷ os)
    by_test true n rest = cc
    by_test false n rest = omega (arith, rest n)

pub has-only : (os : List Instruction) (o : Instruction) (p : ℕ) → key_place os o.key ≡ None → has_key (os ++ o ∷ []) p o.key ≡ true → p ≡ length os
has-only os o p new h = has-only_from os o 0 p new h

-- no order is there behind the last one
pub has-past : (os : List Instruction) (p : ℕ) (q : TxKey) → length os ≤ p → has_key os p q ≡ false
has-past [] p q h = refl
has-past (x ∷ os) zero q h = absurd (omega (arith, h))
has-past (x ∷ os) (suc p) q h = has-past os p q (omega (arith, h))

-- the places, after an order more of a new key
pub key-place-push : (os : List Instruction) (o : Instruction) (q : TxKey) → key_place os o.key ≡ None →
    key_place (os ++ o ∷ []) q ≡ cond (same_key o.key q) (Some (length os)) (key_place os q)
key-place-push os o q new =
    place-push (λ (x : Instruction). same_key x.key q) os o
    (λ h. found-none (λ (x : Instruction). same_key x.key q) 0 os (ap (key_place os) (sym (same_key_is o.key q h)) ∙ new))

-- the orders before one don't have its key
new_before : (os : List Instruction) (j i : ℕ) (o : Instruction) → HasDistinctKeys os → slice_get os i ≡ Some o → position_from (λ x. same_key x.key o.key) j (take i os) ≡ None
new_before [] j i o distinct there = cc
new_before (x ∷ os) j zero o distinct there = refl
new_before (x ∷ os) j (suc i) o distinct there = by_test (same_key x.key o.key) refl (new_before os (j + 1) i o distinct.1 there)
  where
    by_test : (b : Bool) → same_key x.key o.key ≡ b → position_from (λ x. same_key x.key o.key) (j + 1) (take i os) ≡ None →
        cond b (Some j) (position_from (λ x. same_key x.key o.key) (j + 1) (take i os)) ≡ None
    by_test true e rest =
        let has : has_key os i o.key ≡ true = ap (λ (found : Option Instruction). is_of found o.key) there ∙ same_key_self o.key in
        let entered : is_entered os o.key ≡ true = entered-has os i o.key has in
        let apart : is_entered os o.key ≡ false = ap (is_entered os) (sym (same_key_is x.key o.key e)) ∙ distinct.0 in
        cc
    by_test false e rest = rest

pub new-before : (os : List Instruction) (i : ℕ) (o : Instruction) → HasDistinctKeys os → slice_get os i ≡ Some o → key_place (take i os) o.key ≡ None
new-before os i o distinct there = new_before os 0 i o distinct there

-- ---- slots

-- what is told of a key has it
pub sought-has : (w : List Slot) (t : ℕ) (os : List Instruction) (q : TxKey) (p : ℕ) → sought w t os q ≡ Some p → has_key os p q ≡ true
sought-has [] t os q p h = cc
sought-has (s ∷ w) t os q p h = by_free (is_free s) h (λ more. sought-has w t os q p more)
  where
    by_has : (a b : Bool) → has_key os (s.number - 1) q ≡ b → cond (a && b) (Some (s.number - 1)) (sought w t os q) ≡ Some p →
        (sought w t os q ≡ Some p → has_key os p q ≡ true) → has_key os p q ≡ true
    by_has true true e h rest =
        let same : s.number - 1 ≡ p = cc in
        ap (λ (n : ℕ). has_key os n q) (sym same) ∙ e
    by_has true false e h rest = rest h
    by_has false b e h rest = rest h

    by_free : (b : Bool) → cond b None (cond ((s.tag == t) && has_key os (s.number - 1) q) (Some (s.number - 1)) (sought w t os q)) ≡ Some p →
        (sought w t os q ≡ Some p → has_key os p q ≡ true) → has_key os p q ≡ true
    by_free true h rest = cc
    by_free false h rest = by_has (s.tag == t) (has_key os (s.number - 1) q) refl h rest

-- orders that have the key at the same places are told alike
pub sought-alike : (w : List Slot) (t : ℕ) (a b : List Instruction) (q : TxKey) → ((p : ℕ) → has_key a p q ≡ has_key b p q) → sought w t a q ≡ sought w t b q
sought-alike [] t a b q same = refl
sought-alike (s ∷ w) t a b q same =
    ap (λ (h : Bool). cond (is_free s) None (cond ((s.tag == t) && h) (Some (s.number - 1)) (sought w t a q))) (same (s.number - 1))
    ∙ ap (λ (r : Option ℕ). cond (is_free s) None (cond ((s.tag == t) && has_key b (s.number - 1) q) (Some (s.number - 1)) r)) (sought-alike w t a b q same)

pub checked-alike : (g : Option ℕ) (a b : List Instruction) (q : TxKey) → ((p : ℕ) → has_key a p q ≡ has_key b p q) → checked g a q ≡ checked g b q
checked-alike None a b q same = refl
checked-alike (Some p) a b q same = ap (λ (h : Bool). cond h (Some p) None) (same p)

-- a free slot that is taken hides nothing that was told
pub sought-kept : (w : List Slot) (i : ℕ) (f s : Slot) (t : ℕ) (os : List Instruction) (q : TxKey) (p : ℕ) → slice_get w i ≡ Some f → is_free f ≡ true →
    sought w t os q ≡ Some p → sought (set w i s) t os q ≡ Some p
sought-kept [] i f s t os q p there free h = cc
sought-kept (x ∷ w) zero f s t os q p there free h =
    let same : x ≡ f = cc in
    let none : sought (x ∷ w) t os q ≡ None =
    ap (λ (b : Bool). cond b None (cond ((x.tag == t) && has_key os (x.number - 1) q) (Some (x.number - 1)) (sought w t os q))) (ap is_free same ∙ free) in
    cc
sought-kept (x ∷ w) (suc i) f s t os q p there free h = by_free (is_free x) h (λ more. sought-kept w i f s t os q p there free more)
  where
    by_told : (b : Bool) → cond b (Some (x.number - 1)) (sought w t os q) ≡ Some p → (sought w t os q ≡ Some p → sought (set w i s) t os q ≡ Some p) →
        cond b (Some (x.number - 1)) (sought (set w i s) t os q) ≡ Some p
    by_told true h rest = h
    by_told false h rest = rest h

    by_free : (b : Bool) → cond b None (cond ((x.tag == t) && has_key os (x.number - 1) q) (Some (x.number - 1)) (sought w t os q)) ≡ Some p →
        (sought w t os q ≡ Some p → sought (set w i s) t os q ≡ Some p) →
        cond b None (cond ((x.tag == t) && has_key os (x.number - 1) q) (Some (x.number - 1)) (sought (set w i s) t os q)) ≡ Some p
    by_free true h rest = cc
    by_free false h rest = by_told ((x.tag == t) && has_key os (x.number - 1) q) h rest

-- the key that takes the first free slot is told there
pub sought-taken : (w : List Slot) (j i n : ℕ) (s : Slot) (os : List Instruction) (k : TxKey) → position_from is_free j w ≡ Some (j + i) → s.number ≡ n + 1 →
    ((p : ℕ) → has_key os p k ≡ true → p ≡ n) → has_key os n k ≡ true → sought (set w i s) s.tag os k ≡ Some n
sought-taken [] j i n s os k first number only has = cc
sought-taken (x ∷ w) j zero n s os k first number only has =
    let taken : is_free s ≡ false = grind (arith, common_steps) in
    let tagged : (s.tag == s.tag) ≡ true = grind (arith, common_steps) in
    let last : s.number - 1 ≡ n = omega (arith, number) in
    let there : has_key os (s.number - 1) k ≡ true = ap (λ (m : ℕ). has_key os m k) last ∙ has in
    ap (λ (b : Bool). cond b None (cond ((s.tag == s.tag) && has_key os (s.number - 1) k) (Some (s.number - 1)) (sought w s.tag os k))) taken
    ∙ ap (λ (b : Bool). cond (b && has_key os (s.number - 1) k) (Some (s.number - 1)) (sought w s.tag os k)) tagged
    ∙ ap (λ (b : Bool). cond b (Some (s.number - 1)) (sought w s.tag os k)) there ∙ ap Some last
sought-taken (x ∷ w) j (suc i) n s os k first number only has =
    by_free (is_free x) first (λ f. sought-taken w (j + 1) i n s os k f number only has)
  where
    by_told : (a b : Bool) → has_key os (x.number - 1) k ≡ b → sought (set w i s) s.tag os k ≡ Some n → cond (a && b) (Some (x.number - 1)) (sought (set w i s) s.tag os k) ≡ Some n
    by_told true true e rest = ap Some (only (x.number - 1) e)
    by_told true false e rest = rest
    by_told false b e rest = rest

    by_free : (b : Bool) → cond b (Some j) (position_from is_free (j + 1) w) ≡ Some (j + suc i) →
        (position_from is_free (j + 1) w ≡ Some (j + 1 + i) → sought (set w i s) s.tag os k ≡ Some n) →
        cond b None (cond ((x.tag == s.tag) && has_key os (x.number - 1) k) (Some (x.number - 1)) (sought (set w i s) s.tag os k)) ≡ Some n
    by_free true f rest =
        let same : j ≡ j + suc i = cc in
        absurd (omega (arith, same))
    by_free false f rest = by_told (x.tag == s.tag) (has_key os (x.number - 1) k) refl (rest (f ∙ ap Some (omega arith)))
