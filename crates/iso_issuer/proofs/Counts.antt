-- The counts of completions, after one of them changed.
use Rattle.std.proofs.Common.{◌≡◌, ℕ, Bool, true, false, cond, refl, arith, ap, sym, ◌∙◌, ◌+◌, ◌-◌, ◌<◌, ◌≤◌, ◌++◌, ◌∷◌, [], List, length, not, map, ◌⊎◌, inl, inr}
use Rattle.std.specs.Prelude.{◌&&◌, ◌==◌, Option, Some, None, IfSome, is_some, unwrap_or, option_and_then, sum_by}
use Rattle.std.specs.Option.{option_or}
use Rattle.std.specs.Ordering.{is_eq, ordering_then}
use Rattle.std.specs.declared.cmp.Ordering.{Ordering}
use Rattle.std.specs.declared.cmp.Ordering.TheVariants.{Less, Equal, Greater}
use Rattle.std.proofs.lemmas.Bool.{and_parts}
use Rattle.std.proofs.lemmas.Grind.{common_steps}
use Rattle.std.proofs.lemmas.List.Sums.{sum_by-cons}
use Rattle.std.specs.BTreeMap as tree
use Rattle.std.specs.BTreeMap.{BTreeMap}
use Rattle.iso_order.specs.declared.key.TxKey.{TxKey}
use Rattle.iso_order.specs.Pan.{AccountNumber}
use Rattle.iso_order.specs.Key.{same_key}
use Rattle.iso_order.specs.Order.{same_pan}
use Rattle.iso_issuer.specs.declared.effect.Hold.{Hold}
use Rattle.iso_issuer.specs.Index.{key_cmp, pan_cmp, hold_cmp, bit, hold_count, mark_at, completions, hold_on, hold_by, added_by, dropped_of_entry, dropped_at_key, dropped_by_act, AreCounts}
use Rattle.iso_order.specs.declared.act.Act.{Act}
use Rattle.iso_order.specs.declared.act.Act.TheVariants.{Debit, Credit, Inquiry, Undo, Complete}
use Rattle.iso_issuer.specs.declared.effect.Effect.{Effect}
use Rattle.iso_issuer.specs.declared.journal.Entry.{Entry}
use Rattle.iso_issuer.specs.Effect.{effect_of, effect_by, is_key, is_end_of}
use Rattle.iso_issuer.specs.Journal.{entry_at, undone_key, left_by, left_at, is_counted_with, is_counted, HasDistinctKeys}
use Rattle.iso_issuer.specs.Found.{reversed_by}
use Rattle.iso_issuer.proofs.Keys.{same_key_is, same_pan_is}
use Rattle.iso_issuer.proofs.ByKey.{key_tied, pan_tied, left-push}
use Rattle.iso_issuer.proofs.Touched.{at, found-key}
use Rattle.iso_issuer.proofs.Completions.{counted-kept, completions-entered, passed-most}

then_tied : (a b : Ordering) → is_eq (ordering_then a b) ≡ is_eq a && is_eq b
then_tied Less b = refl
then_tied Equal b = refl
then_tied Greater b = refl

-- holds tie in their order where they are the same
hold_tied : (h q : Hold) → is_eq (hold_cmp h q) ≡ same_key h.key q.key && same_pan h.pan q.pan
hold_tied h q =
    then_tied (key_cmp h.key q.key) (pan_cmp h.pan q.pan)
    ∙ ap (λ b. b && is_eq (pan_cmp h.pan q.pan)) (key_tied h.key q.key)
    ∙ ap (λ b. same_key h.key q.key && b) (pan_tied h.pan q.pan)

-- the counts, after one of them was set
count-set : (old new : BTreeMap Hold ℕ) (h : Hold) (n : ℕ) →
    ((q : Hold) → tree.get hold_cmp new q ≡ cond (is_eq (hold_cmp h q)) (Some n) (tree.get hold_cmp old q)) →
    (key : TxKey) (pan : AccountNumber) → hold_count new key pan ≡ cond (same_key h.key key && same_pan h.pan pan) n (hold_count old key pan)
count-set old new h n updates key pan =
    let q : Hold = record { key = key; pan = pan } in
    ap (λ o. unwrap_or o 0) (updates q ∙ ap (λ b. cond b (Some n) (tree.get hold_cmp old q)) (hold_tied h q))
    ∙ either (same_key h.key key && same_pan h.pan pan) (tree.get hold_cmp old q)
  where
    either : (b : Bool) (o : Option ℕ) → unwrap_or (cond b (Some n) o) 0 ≡ cond b n (unwrap_or o 0)
    either true o = refl
    either false o = refl

-- the count of the same hold
same_count : (counts : BTreeMap Hold ℕ) (h : Hold) (key : TxKey) (pan : AccountNumber) → (same_key h.key key && same_pan h.pan pan) ≡ true →
    hold_count counts h.key h.pan ≡ hold_count counts key pan
same_count counts h key pan t =
    let parts = and_parts (same_key h.key key) (same_pan h.pan pan) t in
    ap (λ k. hold_count counts k h.pan) (same_key_is h.key key parts.0) ∙ ap (λ p. hold_count counts key p) (same_pan_is h.pan pan parts.1)

pub count-more : (old new : BTreeMap Hold ℕ) (h : Hold) (n : ℕ) →
    ((q : Hold) → tree.get hold_cmp new q ≡ cond (is_eq (hold_cmp h q)) (Some n) (tree.get hold_cmp old q)) →
    n ≡ hold_count old h.key h.pan + 1 →
    (key : TxKey) (pan : AccountNumber) → hold_count new key pan ≡ hold_count old key pan + mark_at (Some h) key pan
count-more old new h n updates is key pan =
    count-set old new h n updates key pan ∙ by_test (same_key h.key key && same_pan h.pan pan) (same_count old h key pan)
  where
    by_test : (b : Bool) → (b ≡ true → hold_count old h.key h.pan ≡ hold_count old key pan) → cond b n (hold_count old key pan) ≡ hold_count old key pan + bit b
    by_test true same = omega (arith, is, same refl)
    by_test false same = omega arith

pub count-less : (old new : BTreeMap Hold ℕ) (h : Hold) (n : ℕ) →
    ((q : Hold) → tree.get hold_cmp new q ≡ cond (is_eq (hold_cmp h q)) (Some n) (tree.get hold_cmp old q)) →
    n ≡ hold_count old h.key h.pan - 1 →
    (key : TxKey) (pan : AccountNumber) → hold_count new key pan ≡ hold_count old key pan - mark_at (Some h) key pan
count-less old new h n updates is key pan =
    count-set old new h n updates key pan ∙ by_test (same_key h.key key && same_pan h.pan pan) (same_count old h key pan)
  where
    by_test : (b : Bool) → (b ≡ true → hold_count old h.key h.pan ≡ hold_count old key pan) → cond b n (hold_count old key pan) ≡ hold_count old key pan - bit b
    by_test true same = ap (λ m. m) (is ∙ ap (λ m. m - 1) (same refl))
    by_test false same = omega arith

-- ---- the counts, after one entry more

none_marked : (b : Bool) (key : TxKey) (pan : AccountNumber) → mark_at (cond b None None) key pan ≡ 0
none_marked true key pan = refl
none_marked false key pan = refl

no_bit : (b : Bool) → bit (b && false) ≡ 0
no_bit true = refl
no_bit false = refl

-- the hold that an effect ends is the one that it is counted for
mark-hold : (f : Option Effect) (key : TxKey) (pan : AccountNumber) → mark_at (hold_by f) key pan ≡ bit (is_end_of key pan f)
mark-hold None key pan = refl
mark-hold (Some f) key pan = by_end f.ends
  where
    by_end : (k : Option TxKey) → mark_at (hold_on f.pan k) key pan ≡ bit (is_key k key && same_pan f.pan pan)
    by_end None = refl
    by_end (Some k) = refl

added-mark : (k : TxKey) (act : Act) (b c : Bool) (key : TxKey) (pan : AccountNumber) → (undone_key act ≡ None → c ≡ b) →
    mark_at (cond b (hold_by (effect_by k act)) None) key pan ≡ bit (c && is_end_of key pan (effect_by k act))
added-mark k (Debit m) b c key pan same = none_marked b key pan ∙ sym (no_bit c)
added-mark k (Credit m) b c key pan same = none_marked b key pan ∙ sym (no_bit c)
added-mark k (Inquiry m) b c key pan same = none_marked b key pan ∙ sym (no_bit c)
added-mark k (Undo original left) b c key pan same = none_marked b key pan ∙ sym (no_bit c)
added-mark k (Complete m hold) b c key pan same = by_test b ∙ ap (λ t. bit (t && (same_key hold key && same_pan m.pan pan))) (sym (same refl))
  where
    by_test : (t : Bool) → mark_at (cond t (Some (record { key = hold; pan = m.pan })) None) key pan ≡ bit (t && (same_key hold key && same_pan m.pan pan))
    by_test true = refl
    by_test false = refl

-- what a reversal drops is what its entry counted for and counts for no more
dropped-mark : (l : Option ℕ) (left : ℕ) (r : Entry) (key : TxKey) (pan : AccountNumber) →
    mark_at (dropped_of_entry l left r) key pan + bit (is_counted_with (option_or l (Some left)) r && is_end_of key pan (effect_of r.order)) ≡ bit (is_counted_with l r && is_end_of key pan (effect_of r.order))
dropped-mark (Some n) left r key pan = omega arith
dropped-mark None left r key pan = by_tests (is_some (effect_of r.order) && (r.answer.code == 0)) (left == 0) (is_end_of key pan (effect_of r.order)) (mark-hold (effect_of r.order) key pan)
  where
    by_tests : (b z e : Bool) → mark_at (hold_by (effect_of r.order)) key pan ≡ bit e →
        mark_at (cond (b && not false && z) (hold_by (effect_of r.order)) None) key pan + bit ((b && not z) && e) ≡ bit ((b && not false) && e)
    by_tests true true e h = omega (arith, h)
    by_tests true false e h = omega arith
    by_tests false z e h = omega arith

reversed-mark : (es : List Entry) (e : Entry) (original : TxKey) (left : ℕ) (key : TxKey) (pan : AccountNumber) → e.order.act ≡ Undo original left →
    (o : Option Entry) → entry_at es original ≡ o →
    mark_at (dropped_at_key es original left o) key pan + at (λ c. bit (is_counted (es ++ e ∷ []) c && is_end_of key pan (effect_of c.order))) o
    ≡ at (λ c. bit (is_counted es c && is_end_of key pan (effect_of c.order))) o
reversed-mark es e original left key pan act None found = refl
reversed-mark es e original left key pan act (Some r) found =
    let same : same_key original r.order.key ≡ true = found-key es original r found in
    let is : original ≡ r.order.key = same_key_is original r.order.key same in
    let after : left_at (es ++ e ∷ []) r.order.key ≡ option_or (left_at es r.order.key) (Some left) =
    left-push es e r.order.key ∙ ap (λ a. option_or (left_at es r.order.key) (cond (is_key (undone_key a) r.order.key) (Some (left_by a)) None)) act
    ∙ ap (λ b. option_or (left_at es r.order.key) (cond b (Some left) None)) same in
    ap (λ k. mark_at (dropped_of_entry (left_at es k) left r) key pan + bit (is_counted (es ++ e ∷ []) r && is_end_of key pan (effect_of r.order))) is
    ∙ ap (λ l. mark_at (dropped_of_entry (left_at es r.order.key) left r) key pan + bit (is_counted_with l r && is_end_of key pan (effect_of r.order))) after
    ∙ dropped-mark (left_at es r.order.key) left r key pan

-- what a new entry adds, and what it drops
record Marks (es : List Entry) (e : Entry) (key : TxKey) (pan : AccountNumber) : Type 0 where
  dropped : mark_at (dropped_by_act es e.order.act) key pan + at (λ c. bit (is_counted (es ++ e ∷ []) c && is_end_of key pan (effect_of c.order))) (reversed_by es e.order)
      ≡ at (λ c. bit (is_counted es c && is_end_of key pan (effect_of c.order))) (reversed_by es e.order)
  apart : (mark_at (dropped_by_act es e.order.act) key pan ≡ 0) ⊎ (mark_at (added_by es e) key pan ≡ 0)

marks : (es : List Entry) (e : Entry) (key : TxKey) (pan : AccountNumber) → Marks es e key pan
marks es e key pan = by_act e.order.act refl
  where
    goal : Act → Type 0
    goal act = (mark_at (dropped_by_act es act) key pan + at (λ c. bit (is_counted (es ++ e ∷ []) c && is_end_of key pan (effect_of c.order))) (option_and_then (entry_at es) (undone_key act))
        ≡ at (λ c. bit (is_counted es c && is_end_of key pan (effect_of c.order))) (option_and_then (entry_at es) (undone_key act)))
        × ((mark_at (dropped_by_act es act) key pan ≡ 0) ⊎ (mark_at (cond (is_counted es e) (hold_by (effect_by e.order.key act)) None) key pan ≡ 0))

    told : (act : Act) → e.order.act ≡ act → goal act
    told (Debit m) act = (refl, inl refl)
    told (Credit m) act = (refl, inl refl)
    told (Inquiry m) act = (refl, inl refl)
    told (Complete m hold) act = (refl, inl refl)
    told (Undo original left) act = (reversed-mark es e original left key pan act (entry_at es original) refl, inr (none_marked (is_counted es e) key pan))

    by_act : (act : Act) → e.order.act ≡ act → Marks es e key pan
    by_act act same =
        let t : goal e.order.act = told e.order.act refl in
        record { dropped = t.0; apart = t.1 }

-- the number of completions of a hold, after one entry more
pub counts-entered : (es : List Entry) (e : Entry) (key : TxKey) (pan : AccountNumber) → HasDistinctKeys (map (λ e. e.order) es) →
    completions es key pan - mark_at (dropped_by_act es e.order.act) key pan + mark_at (added_by es e) key pan ≡ completions (es ++ e ∷ []) key pan
counts-entered es e key pan distinct =
    let m = marks es e key pan in
    let added : mark_at (added_by es e) key pan ≡ bit (is_counted (es ++ e ∷ []) e && is_end_of key pan (effect_of e.order)) =
    added-mark e.order.key e.order.act (is_counted es e) (is_counted (es ++ e ∷ []) e) key pan (λ none. counted-kept es e e (ap (λ k. is_key k e.order.key) none)) in
    either (completions es key pan) (completions (es ++ e ∷ []) key pan) _ _ _ _ _ (completions-entered es e key pan distinct) m.dropped added m.apart
  where
    either : (old new d a g f' f : ℕ) → new + f ≡ old + g + f' → d + f' ≡ f → a ≡ g → (d ≡ 0) ⊎ (a ≡ 0) → old - d + a ≡ new
    either old new d a g f' f law drop add (inl h) = omega (arith, law, drop, add, h)
    either old new d a g f' f law drop add (inr h) = omega (arith, law, drop, add, h)

-- a count is at most the number of entries
pub few-counted : (es : List Entry) (o : Option Hold) (counts : BTreeMap Hold ℕ) → AreCounts counts es → length es < 999999 → IfSome o (λ h. hold_count counts h.key h.pan < 1000000)
few-counted es None counts are few = tt
few-counted es (Some h) counts are few =
    omega (arith, are h.key h.pan, passed-most (λ (c : Entry). is_counted es c && is_end_of h.key h.pan (effect_of c.order)) es)

-- what is found under a key is part of a sum
at-most : (f : Entry → ℕ) (k : Option TxKey) (es : List Entry) → at f (option_and_then (entry_at es) k) ≤ sum_by f es
at-most f None es = omega arith
at-most f (Some k) [] = omega arith
at-most f (Some k) (e ∷ es) = by_test (same_key e.order.key k) (at-most f (Some k) es)
  where
    by_test : (b : Bool) → at f (entry_at es k) ≤ sum_by f es → at f (cond b (Some e) (entry_at es k)) ≤ sum_by f (e ∷ es)
    by_test true rest = omega (arith, sum_by-cons f e es)
    by_test false rest = omega (arith, rest, sum_by-cons f e es)

-- the hold that an entry no longer completes is counted
pub counted-dropped : (es : List Entry) (e : Entry) (o : Option Hold) (counts : BTreeMap Hold ℕ) → AreCounts counts es → o ≡ dropped_by_act es e.order.act →
    IfSome o (λ h. 1 ≤ hold_count counts h.key h.pan)
counted-dropped es e None counts are is = tt
counted-dropped es e (Some h) counts are is =
    let m = marks es e h.key h.pan in
    let own : mark_at (dropped_by_act es e.order.act) h.key h.pan ≡ 1 = ap (λ o. mark_at o h.key h.pan) (sym is) ∙ ap bit (same_hold h) in
    omega (arith, own, m.dropped, are h.key h.pan, at-most (λ (c : Entry). bit (is_counted es c && is_end_of h.key h.pan (effect_of c.order))) (undone_key e.order.act) es)
  where
    same_hold : (h : Hold) → (same_key h.key h.key && same_pan h.pan h.pan) ≡ true
    same_hold h = grind (arith, common_steps)
