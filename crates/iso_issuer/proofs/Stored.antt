-- The entries as they are kept, and one more.
use Rattle.std.proofs.Common.{◌≡◌, ℕ, zero, suc, ◌+◌, ◌-◌, ◌<◌, ◌≤◌, true, false, cond, refl, arith, ap, sym, ◌∙◌, List, [], ◌∷◌, ◌++◌, length, get_or, length-append}
use Rattle.std.specs.Prelude.{ℤ, Option, Some, None, map, ◌==◌}
use Rattle.std.specs.Option.{option_or}
use Rattle.std.specs.Ordering.{nat_cmp}
use Rattle.std.specs.BTreeMap as tree
use Rattle.std.specs.BTreeMap.{BTreeMap}
use Rattle.std.proofs.lemmas.List.Elements.{All-push}
use Rattle.iso_order.specs.declared.key.TxKey.{TxKey}
use Rattle.iso_order.specs.Pan.{AccountNumber}
use Rattle.iso_order.specs.Order.{Instruction}
use Rattle.iso_order.specs.Outcome.{Outcome}
use Rattle.iso_issuer.specs.declared.index.Index.{Index}
use Rattle.iso_issuer.specs.declared.journal.Entry.{Entry}
use Rattle.iso_issuer.specs.Effect.{is_key}
use Rattle.iso_issuer.specs.Journal.{undone_key, left_by, HasDistinctKeys}
use Rattle.iso_issuer.specs.Index.{key_cmp, hold_count, mark_at, added_by, dropped_by_act, entries_from, AreStored, IsIndexOf, AnswersAlike}
use Rattle.iso_issuer.proofs.ByKey.{left-push}
use Rattle.iso_issuer.proofs.Counts.{counts-entered}

-- an entry for each order
pub length-entries : (n : ℕ) (os : List Instruction) (cs : List ℕ) (s : BTreeMap ℕ ℤ) → length cs ≡ length os → length (entries_from n os cs s) ≡ length os
length-entries n [] cs s same = refl
length-entries n (o ∷ os) [] s same = absurd (differ (length os) same)
  where
    differ : (m : ℕ) → 0 ≡ suc m → ⊥
    differ m h = omega (arith, h)
length-entries n (o ∷ os) (c ∷ cs) s same = omega (arith, length-entries (n + 1) os cs s (omega (arith, same)))

-- an order with its code, its place from 0 on, and what is shown
abbrev pub entry : Instruction → ℕ → ℕ → Option ℤ → Entry
entry o c place shown = record { order = o; answer = record { code = c; seq = place + 1; shown = shown } }

-- the entry at a place, with the places from n on
entry-there : (n p : ℕ) (os : List Instruction) (cs : List ℕ) (s : BTreeMap ℕ ℤ) (d : Entry) (o : Instruction) (c : ℕ) → length cs ≡ length os → p < length os →
    get_or (entries_from n os cs s) p d ≡ entry (get_or os p o) (get_or cs p c) (n + p) (tree.get nat_cmp s (n + p))
entry-there n p [] cs s d o c same below = absurd (none p below)
  where
    none : (p : ℕ) → p < 0 → ⊥
    none p h = omega (arith, h)
entry-there n p (x ∷ os) [] s d o c same below = absurd (differ (length os) same)
  where
    differ : (m : ℕ) → 0 ≡ suc m → ⊥
    differ m h = omega (arith, h)
entry-there n zero (x ∷ os) (y ∷ cs) s d o c same below = ap (λ i. entry x y i (tree.get nat_cmp s i)) (omega arith)
entry-there n (suc p) (x ∷ os) (y ∷ cs) s d o c same below =
    entry-there (n + 1) p os cs s d o c (omega (arith, same)) (omega (arith, below))
    ∙ ap (λ i. entry (get_or os p o) (get_or cs p c) i (tree.get nat_cmp s i)) (omega arith)

pub entry-at-place : (p : ℕ) (os : List Instruction) (cs : List ℕ) (s : BTreeMap ℕ ℤ) (d : Entry) (o : Instruction) (c : ℕ) → length cs ≡ length os → p < length os →
    get_or (entries_from 0 os cs s) p d ≡ entry (get_or os p o) (get_or cs p c) p (tree.get nat_cmp s p)
entry-at-place p os cs s d o c same below =
    entry-there 0 p os cs s d o c same below ∙ ap (λ i. entry (get_or os p o) (get_or cs p c) i (tree.get nat_cmp s i)) (omega arith)

-- the same balances at the places of the orders make the same entries
pub entries-same : (n : ℕ) (os : List Instruction) (cs : List ℕ) (s t : BTreeMap ℕ ℤ) → ((i : ℕ) → i < n + length os → tree.get nat_cmp s i ≡ tree.get nat_cmp t i) →
    entries_from n os cs s ≡ entries_from n os cs t
entries-same n [] cs s t same = refl
entries-same n (o ∷ os) [] s t same = refl
entries-same n (o ∷ os) (c ∷ cs) s t same =
    ap (λ z. entry o c n z ∷ entries_from (n + 1) os cs s) (same n (omega arith))
    ∙ ap (λ es. entry o c n (tree.get nat_cmp t n) ∷ es) (entries-same (n + 1) os cs s t (λ i below. same i (omega (arith, below))))

-- one order more is one entry more
pub entries-push : (n : ℕ) (os : List Instruction) (cs : List ℕ) (s : BTreeMap ℕ ℤ) (o : Instruction) (c : ℕ) → length cs ≡ length os →
    entries_from n (os ++ o ∷ []) (cs ++ c ∷ []) s ≡ entries_from n os cs s ++ entry o c (n + length os) (tree.get nat_cmp s (n + length os)) ∷ []
entries-push n [] [] s o c same = ap (λ i. entry o c i (tree.get nat_cmp s i) ∷ []) (omega arith)
entries-push n [] (y ∷ cs) s o c same = absurd (differ (length cs) same)
  where
    differ : (m : ℕ) → suc m ≡ 0 → ⊥
    differ m h = omega (arith, h)
entries-push n (x ∷ os) [] s o c same = absurd (differ (length os) same)
  where
    differ : (m : ℕ) → 0 ≡ suc m → ⊥
    differ m h = omega (arith, h)
entries-push n (x ∷ os) (y ∷ cs) s o c same =
    ap (λ es. entry x y n (tree.get nat_cmp s n) ∷ es)
    (entries-push (n + 1) os cs s o c (omega (arith, same)) ∙ ap (λ i. entries_from (n + 1) os cs s ++ entry o c i (tree.get nat_cmp s i) ∷ []) (omega arith))

-- a balance was put at a place
abbrev pub IsPut : ℕ → Option ℤ → BTreeMap ℕ ℤ → BTreeMap ℕ ℤ → Type 0
IsPut place z old new = (at : ℕ) → tree.get nat_cmp new at ≡ cond (at == place) z (tree.get nat_cmp old at)

put-below : (place : ℕ) (z : Option ℤ) (old new : BTreeMap ℕ ℤ) → IsPut place z old new → (i : ℕ) → i < place → tree.get nat_cmp new i ≡ tree.get nat_cmp old i
put-below place z old new put i below = put i ∙ ap (λ b. cond b z (tree.get nat_cmp old i)) (apart i place below)
  where
    apart : (i p : ℕ) → i < p → (i == p) ≡ false
    apart i p h = grind (arith)

put-there : (place : ℕ) (z : Option ℤ) (old new : BTreeMap ℕ ℤ) → IsPut place z old new → tree.get nat_cmp new place ≡ z
put-there place z old new put = put place ∙ ap (λ b. cond b z (tree.get nat_cmp old place)) (same place)
  where
    same : (p : ℕ) → (p == p) ≡ true
    same p = grind (arith)

put-above : (place : ℕ) (z : Option ℤ) (old new : BTreeMap ℕ ℤ) → IsPut place z old new → (i : ℕ) → place < i → tree.get nat_cmp new i ≡ tree.get nat_cmp old i
put-above place z old new put i above = put i ∙ ap (λ b. cond b z (tree.get nat_cmp old i)) (apart i place above)
  where
    apart : (i p : ℕ) → p < i → (i == p) ≡ false
    apart i p h = grind (arith)

-- an order, with an answer of the next number, is one entry more
pub entries-entered : (os : List Instruction) (cs : List ℕ) (s t : BTreeMap ℕ ℤ) (o : Instruction) (a : Outcome) → length cs ≡ length os → a.seq ≡ length os + 1 →
    IsPut (length os) a.shown s t → entries_from 0 (os ++ o ∷ []) (cs ++ a.code ∷ []) t ≡ entries_from 0 os cs s ++ record { order = o; answer = a } ∷ []
entries-entered os cs s t o a same seq put =
    entries-push 0 os cs t o a.code same
    ∙ ap (λ es. es ++ entry o a.code (0 + length os) (tree.get nat_cmp t (0 + length os)) ∷ []) (entries-same 0 os cs t s (λ i below. put-below (length os) a.shown s t put i (omega (arith, below))))
    ∙ ap (λ i. entries_from 0 os cs s ++ entry o a.code i (tree.get nat_cmp t i) ∷ []) (omega arith)
    ∙ ap (λ z. entries_from 0 os cs s ++ entry o a.code (length os) z ∷ []) (put-there (length os) a.shown s t put)
    ∙ ap (λ n. entries_from 0 os cs s ++ record { order = o; answer = record { code = a.code; seq = n; shown = a.shown } } ∷ []) (sym seq)

-- the index, once it has what an entry changes
pub index-entered : (es : List Entry) (e : Entry) (old new : Index) → IsIndexOf old es → HasDistinctKeys (map (λ e. e.order) es) →
    ((q : TxKey) → tree.get key_cmp new.lefts q ≡ option_or (tree.get key_cmp old.lefts q) (cond (is_key (undone_key e.order.act) q) (Some (left_by e.order.act)) None)) →
    ((q : TxKey) (pan : AccountNumber) → hold_count new.counts q pan ≡ hold_count old.counts q pan - mark_at (dropped_by_act es e.order.act) q pan + mark_at (added_by es e) q pan) →
    IsIndexOf new (es ++ e ∷ [])
index-entered es e old new is distinct lefts counts = record {
  lefts = λ q.
      lefts q ∙ ap (λ o. option_or o (cond (is_key (undone_key e.order.act) q) (Some (left_by e.order.act)) None)) (is.lefts q) ∙ sym (left-push es e q);
  counts = λ q pan.
      counts q pan ∙ ap (λ n. n - mark_at (dropped_by_act es e.order.act) q pan + mark_at (added_by es e) q pan) (is.counts q pan) ∙ counts-entered es e q pan distinct;
}

-- an index that finds the same
index-alike : (es : List Entry) (a b : Index) → AnswersAlike a b → IsIndexOf b es → IsIndexOf a es
index-alike es a b alike is = record { lefts = λ q. alike.lefts q ∙ is.lefts q; counts = λ q pan. alike.counts q pan ∙ is.counts q pan }

-- what is kept, with one entry more
pub stored-entered : (os : List Instruction) (cs : List ℕ) (s t : BTreeMap ℕ ℤ) (old new : Index) (o : Instruction) (a : Outcome) → AreStored os cs s old → length os < 999999 →
    a.code ≤ 99 → a.seq ≡ length os + 1 → IsPut (length os) a.shown s t → IsIndexOf new (entries_from 0 os cs s ++ record { order = o; answer = a } ∷ []) →
    AreStored (os ++ o ∷ []) (cs ++ a.code ∷ []) t new
stored-entered os cs s t old new o a are below small seq put is = record {
  coded = omega (arith, are.coded, length-append os (o ∷ []), length-append cs (a.code ∷ []));
  two_digits = All-push (λ c. c ≤ 99) cs a.code are.two_digits small;
  few = omega (arith, length-append os (o ∷ []));
  ended = λ i past.
      let above : length os < i = omega (arith, past, length-append os (o ∷ [])) in
      put-above (length os) a.shown s t put i above ∙ are.ended i (omega (arith, above));
  indexed = rw (entries-entered os cs s t o a are.coded seq put) is;
}

-- what is kept, where all is found as before
pub stored-alike : (os : List Instruction) (cs : List ℕ) (s t : BTreeMap ℕ ℤ) (old new : Index) → AreStored os cs s old → ((i : ℕ) → tree.get nat_cmp t i ≡ tree.get nat_cmp s i) →
    AnswersAlike new old → AreStored os cs t new
stored-alike os cs s t old new are same alike = record {
  coded = are.coded;
  two_digits = are.two_digits;
  few = are.few;
  ended = λ i past. same i ∙ are.ended i past;
  indexed = rw (entries-same 0 os cs t s (λ i below. same i)) (index-alike _ new old alike are.indexed);
}

-- the orders of the entries are those that are stored
pub orders-entries : (n : ℕ) (os : List Instruction) (cs : List ℕ) (s : BTreeMap ℕ ℤ) → length cs ≡ length os → map (λ (e : Entry). e.order) (entries_from n os cs s) ≡ os
orders-entries n [] cs s e = refl
orders-entries n (o ∷ os) [] s e = absurd (omega (arith, e))
orders-entries n (o ∷ os) (c ∷ cs) s e = ap (λ (l : List Instruction). o ∷ l) (orders-entries (n + 1) os cs s (omega (arith, e)))
