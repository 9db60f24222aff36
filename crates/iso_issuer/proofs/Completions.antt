-- How many entries that count complete a hold, after one entry more.
use Rattle.std.proofs.Common.{◌≡◌, ℕ, Bool, true, false, not, refl, arith, ap, sym, ◌∙◌, List, [], ◌∷◌, ◌++◌, ◌+◌, ◌≤◌, length}
use Rattle.std.specs.Prelude.{◌&&◌, ◌||◌, ◌==◌, Option, Some, None, map, sum_by, option_and_then}
use Rattle.std.specs.List.{list_any}
use Rattle.std.specs.Option.{option_or}
use Rattle.std.proofs.lemmas.List.Sums.{sum_by-cons}
use Rattle.iso_order.specs.declared.key.TxKey.{TxKey}
use Rattle.iso_order.specs.declared.act.Act.{Act}
use Rattle.iso_order.specs.declared.act.Act.TheVariants.{Debit, Credit, Inquiry, Undo, Complete}
use Rattle.iso_order.specs.Pan.{AccountNumber}
use Rattle.iso_order.specs.Order.{same_pan}
use Rattle.iso_issuer.specs.declared.effect.Effect.{Effect}
use Rattle.iso_issuer.specs.declared.journal.Entry.{Entry}
use Rattle.iso_issuer.specs.Effect.{effect_of, effect_by, is_key, is_end_of}
use Rattle.iso_issuer.specs.Found.{ended_by, effect_at, reversed_by, ended_key}
use Rattle.iso_issuer.specs.Journal.{entry_at, undone_key, is_counted_with, is_counted, is_completed, HasDistinctKeys}
use Rattle.iso_issuer.specs.Index.{bit, completions}
use Rattle.iso_issuer.proofs.ByKey.{left-kept}
use Rattle.iso_issuer.proofs.Touched.{at, sum-entered}

none_more : (n : ℕ) → 0 + n ≡ n
none_more n = omega arith

-- some element passes where the number of those that pass isn't 0
pub any-counted : {X : Type 0} (p : X → Bool) (xs : List X) → list_any p xs ≡ not (sum_by (λ x. bit (p x)) xs == 0)
any-counted p [] = refl
any-counted p (x ∷ xs) = by_test (p x) refl (any-counted p xs)
  where
    by_test : (b : Bool) → p x ≡ b → list_any p xs ≡ not (sum_by (λ x. bit (p x)) xs == 0) → b || list_any p xs ≡ not (sum_by (λ x. bit (p x)) (x ∷ xs) == 0)
    by_test true e rest =
        let more : sum_by (λ x. bit (p x)) (x ∷ xs) ≡ 1 + sum_by (λ x. bit (p x)) xs = sum_by-cons (λ x. bit (p x)) x xs ∙ ap (λ b. bit b + sum_by (λ x. bit (p x)) xs) e in
        some (sum_by (λ x. bit (p x)) (x ∷ xs)) (sum_by (λ x. bit (p x)) xs) more
      where
        some : (n m : ℕ) → n ≡ 1 + m → true ≡ not (n == 0)
        some n m h = grind (arith)
    by_test false e rest =
        let same : sum_by (λ x. bit (p x)) (x ∷ xs) ≡ sum_by (λ x. bit (p x)) xs =
        sum_by-cons (λ x. bit (p x)) x xs ∙ ap (λ b. bit b + sum_by (λ x. bit (p x)) xs) e ∙ none_more (sum_by (λ x. bit (p x)) xs) in
        rest ∙ ap (λ n. not (n == 0)) (sym same)

-- at most all elements pass
pub passed-most : {X : Type 0} (p : X → Bool) (xs : List X) → sum_by (λ x. bit (p x)) xs ≤ length xs
passed-most p [] = omega arith
passed-most p (x ∷ xs) = omega (arith, sum_by-cons (λ x. bit (p x)) x xs, most (p x), passed-most p xs)
  where
    most : (b : Bool) → bit b ≤ 1
    most true = omega arith
    most false = omega arith

-- an entry that another doesn't reverse goes on to count
pub counted-kept : (es : List Entry) (e x : Entry) → is_key (undone_key e.order.act) x.order.key ≡ false → is_counted (es ++ e ∷ []) x ≡ is_counted es x
counted-kept es e x other = ap (λ l. is_counted_with l x) (left-kept es e x.order.key other)

-- the law: the number of completions grows by the new entry, and by the one that it reverses, after less before
pub completions-entered : (es : List Entry) (e : Entry) (key : TxKey) (pan : AccountNumber) → HasDistinctKeys (map (λ e. e.order) es) →
    completions (es ++ e ∷ []) key pan + at (λ c. bit (is_counted es c && is_end_of key pan (effect_of c.order))) (reversed_by es e.order)
    ≡ completions es key pan + bit (is_counted (es ++ e ∷ []) e && is_end_of key pan (effect_of e.order))
    + at (λ c. bit (is_counted (es ++ e ∷ []) c && is_end_of key pan (effect_of c.order))) (reversed_by es e.order)
completions-entered es e key pan distinct =
    sum-entered (λ c. bit (is_counted es c && is_end_of key pan (effect_of c.order))) (λ c. bit (is_counted (es ++ e ∷ []) c && is_end_of key pan (effect_of c.order)))
    (undone_key e.order.act) es e distinct (λ x other. ap (λ b. bit (b && is_end_of key pan (effect_of x.order))) (sym (counted-kept es e x other)))

-- ---- a hold that an order doesn't touch

ends-not : (f : Option Effect) (key : TxKey) (pan : AccountNumber) → is_key (ended_by f) key ≡ false → is_end_of key pan f ≡ false
ends-not None key pan h = refl
ends-not (Some f) key pan h = ap (λ b. b && same_pan f.pan pan) h

neither : (es : List Entry) (k : TxKey) (act : Act) (key : TxKey) → is_key (option_or (ended_by (effect_by k act)) (ended_by (effect_at (option_and_then (entry_at es) (undone_key act))))) key ≡ false →
    (is_key (ended_by (effect_by k act)) key ≡ false) × (is_key (ended_by (effect_at (option_and_then (entry_at es) (undone_key act)))) key ≡ false)
neither es k (Debit m) key h = (refl, refl)
neither es k (Credit m) key h = (refl, refl)
neither es k (Inquiry m) key h = (refl, refl)
neither es k (Undo original left) key h = (refl, h)
neither es k (Complete m hold) key h = (h, refl)

and_off : (b : Bool) → b && false ≡ false
and_off true = refl
and_off false = refl

no_bit : (b c : Bool) → c ≡ false → bit (b && c) ≡ 0
no_bit b c h = ap (λ c. bit (b && c)) h ∙ ap bit (and_off b)

no_at : (j : List Entry) (key : TxKey) (pan : AccountNumber) (o : Option Entry) → is_key (ended_by (effect_at o)) key ≡ false →
    at (λ c. bit (is_counted j c && is_end_of key pan (effect_of c.order))) o ≡ 0
no_at j key pan None h = refl
no_at j key pan (Some r) h = no_bit (is_counted j r) (is_end_of key pan (effect_of r.order)) (ends-not (effect_of r.order) key pan h)

-- a hold of another key is completed as before
pub completed-kept : (es : List Entry) (e : Entry) (key : TxKey) (pan : AccountNumber) → HasDistinctKeys (map (λ e. e.order) es) →
    is_key (ended_key es e.order) key ≡ false → is_completed (es ++ e ∷ []) key pan ≡ is_completed es key pan
completed-kept es e key pan distinct other =
    let apart = neither es e.order.key e.order.act key other in
    let own : bit (is_counted (es ++ e ∷ []) e && is_end_of key pan (effect_of e.order)) ≡ 0 = no_bit _ _ (ends-not (effect_of e.order) key pan apart.0) in
    let before = no_at es key pan (reversed_by es e.order) apart.1 in
    let after = no_at (es ++ e ∷ []) key pan (reversed_by es e.order) apart.1 in
    let same : completions (es ++ e ∷ []) key pan ≡ completions es key pan = omega (arith, completions-entered es e key pan distinct, own, before, after) in
    any-counted (λ c. is_counted (es ++ e ∷ []) c && is_end_of key pan (effect_of c.order)) (es ++ e ∷ [])
    ∙ ap (λ n. not (n == 0)) same ∙ sym (any-counted (λ c. is_counted es c && is_end_of key pan (effect_of c.order)) es)
