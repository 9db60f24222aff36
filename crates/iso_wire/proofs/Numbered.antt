-- The set of the elements' numbers, as elements are put and removed.
use Rattle.std.proofs.Common.{Result, Ok, Err, OnOk, OnErr, ◌≡◌, ◌≢◌, ℕ, ◌+◌, ◌<◌, Bool, true, false, cond, eqb, ltb, List, [], ◌∷◌, ◌++◌, refl, sym, ap, ◌∙◌, arith, inl, inr}
use Rattle.std.specs.declared.alloc.AllocError.{AllocError}
use Rattle.std.proofs.lemmas.Bool.{cases_eq, cases_lt, eqb-true, ltb-true}
use Rattle.std.proofs.lemmas.Bool.Decides.{nat_tests}
use Rattle.iso_parts.specs.declared.bitmap.Bitmap.{Bitmap}
use Rattle.iso_parts.specs.Bitmap.{contains, AreElements}
use Rattle.iso_parts.specs.Numbers.{members}
use Rattle.iso_wire.specs.Elements.{has, put, without, IsAscending}
use Rattle.iso_wire.specs.Ends.{Adds}
use Rattle.iso_wire.proofs.Orders.{numbers_of, Values}
use Rattle.iso_wire.proofs.Sets.{has_below, has_here, has_after, made_from_set}

-- the set has the numbers of these elements
abbrev pub Numbers : Bitmap → Values → Type 0
Numbers set es = (k : ℕ) → contains set k ≡ has es k

has-cons : (e : ℕ × List ℕ) (xs ys : Values) (k : ℕ) → has xs k ≡ has ys k → has (e ∷ xs) k ≡ has (e ∷ ys) k
has-cons e xs ys k same =
    elim (cases_eq e.0 k) [
      | inl here ↦ has_here e xs k here ∙ sym (has_here e ys k here)
      | inr other ↦ has_after e xs k other ∙ same ∙ sym (has_after e ys k other)
    ]

-- ---- a set has numbers of elements alone

not_there : (t : Bool) → (t ≡ true → ⊥) → t ≡ false
not_there true never = absurd (never refl)
not_there false never = refl

none_low : (set : Bitmap) (k : ℕ) → AreElements (contains set) → k < 2 → contains set k ≡ false
none_low set k are low = not_there (contains set k) (λ here. omega (arith, (are k here).0, low))

none_high : (set : Bitmap) (k : ℕ) → AreElements (contains set) → 128 < k → contains set k ≡ false
none_high set k are high = not_there (contains set k) (λ here. omega (arith, (are k here).1, high))

none_65 : (set : Bitmap) → AreElements (contains set) → contains set 65 ≡ false
none_65 set are = not_there (contains set 65) (λ here. (are 65 here).2 refl)

-- ---- an element that is put

put_same_by : (t u : Bool) (n : ℕ) (v : List ℕ) (e : ℕ × List ℕ) (es : Values) → ltb e.0 n ≡ t → has (put n v es) n ≡ true → has (cond t (e ∷ put n v es) (cond u ((n, v) ∷ es) ((n, v) ∷ e ∷ es))) n ≡ true
put_same_by true u n v e es below rest = has_after e (put n v es) n (λ same. omega (arith, ltb-true e.0 n below, same)) ∙ rest
put_same_by false true n v e es below rest = has_here (n, v) es n refl
put_same_by false false n v e es below rest = has_here (n, v) (e ∷ es) n refl

has-put_same : (n : ℕ) (v : List ℕ) (es : Values) → has (put n v es) n ≡ true
has-put_same n v [] = has_here (n, v) [] n refl
has-put_same n v (e ∷ es) = put_same_by (ltb e.0 n) (eqb e.0 n) n v e es refl (has-put_same n v es)

put_other_by : (t u : Bool) (n k : ℕ) (v : List ℕ) (e : ℕ × List ℕ) (es : Values) → n ≢ k → eqb e.0 n ≡ u → has (put n v es) k ≡ has es k → has (cond t (e ∷ put n v es) (cond u ((n, v) ∷ es) ((n, v) ∷ e ∷ es))) k ≡ has (e ∷ es) k
put_other_by true u n k v e es other here rest = has-cons e (put n v es) es k rest
put_other_by false true n k v e es other here rest = has_after (n, v) es k other ∙ sym (has_after e es k (λ same. other (sym (eqb-true e.0 n here) ∙ same)))
put_other_by false false n k v e es other here rest = has_after (n, v) (e ∷ es) k other

has-put_other : (n k : ℕ) (v : List ℕ) (es : Values) → n ≢ k → has (put n v es) k ≡ has es k
has-put_other n k v [] other = has_after (n, v) [] k other
has-put_other n k v (e ∷ es) other = put_other_by (ltb e.0 n) (eqb e.0 n) n k v e es other refl (has-put_other n k v es other)

pub numbered_put : (old new : Bitmap) (n : ℕ) (v : List ℕ) (es : Values) → Numbers old es → Adds old new n → Numbers new (put n v es)
numbered_put old new n v es numbered adds = λ k.
    elim (cases_eq n k) [
      | inl same ↦ ap (contains new) (sym same) ∙ adds.0 ∙ sym (has-put_same n v es) ∙ ap (has (put n v es)) same
      | inr other ↦ adds.1 k (λ e. other (sym e)) ∙ numbered k ∙ sym (has-put_other n k v es other)
    ]

-- where the element was there, the set is the same
pub numbered_replaced : (set : Bitmap) (n : ℕ) (v : List ℕ) (es : Values) → Numbers set es → has es n ≡ true → Numbers set (put n v es)
numbered_replaced set n v es numbered there = λ k.
    elim (cases_eq n k) [
      | inl same ↦ ap (contains set) (sym same) ∙ numbered n ∙ there ∙ sym (has-put_same n v es) ∙ ap (has (put n v es)) same
      | inr other ↦ numbered k ∙ sym (has-put_other n k v es other)
    ]

-- ---- an element behind the others

has-behind_same : (n : ℕ) (v : List ℕ) (es : Values) → has (es ++ (n, v) ∷ []) n ≡ true
has-behind_same n v [] = has_here (n, v) [] n refl
has-behind_same n v (e ∷ es) =
    elim (cases_eq e.0 n) [
      | inl here ↦ has_here e (es ++ (n, v) ∷ []) n here
      | inr other ↦ has_after e (es ++ (n, v) ∷ []) n other ∙ has-behind_same n v es
    ]

has-behind_other : (n k : ℕ) (v : List ℕ) (es : Values) → n ≢ k → has (es ++ (n, v) ∷ []) k ≡ has es k
has-behind_other n k v [] other = has_after (n, v) [] k other
has-behind_other n k v (e ∷ es) other = has-cons e (es ++ (n, v) ∷ []) es k (has-behind_other n k v es other)

pub numbered_behind : (old new : Bitmap) (n : ℕ) (v : List ℕ) (es : Values) → Numbers old es → Adds old new n → Numbers new (es ++ (n, v) ∷ [])
numbered_behind old new n v es numbered adds = λ k.
    elim (cases_eq n k) [
      | inl same ↦ ap (contains new) (sym same) ∙ adds.0 ∙ sym (has-behind_same n v es) ∙ ap (has (es ++ (n, v) ∷ [])) same
      | inr other ↦ adds.1 k (λ e. other (sym e)) ∙ numbered k ∙ sym (has-behind_other n k v es other)
    ]

-- ---- an element that is removed

without_same_by : (t : Bool) (n : ℕ) (e : ℕ × List ℕ) (es : Values) → eqb e.0 n ≡ t → has (without n es) n ≡ false → has (cond t (without n es) (e ∷ without n es)) n ≡ false
without_same_by true n e es here rest = rest
without_same_by false n e es here rest = has_after e (without n es) n (λ same. let t : eqb e.0 n ≡ true = grind (arith, nat_tests) in let both : true ≡ false = sym t ∙ here in cc) ∙ rest

has-without_same : (n : ℕ) (es : Values) → has (without n es) n ≡ false
has-without_same n [] = refl
has-without_same n (e ∷ es) = without_same_by (eqb e.0 n) n e es refl (has-without_same n es)

without_other_by : (t : Bool) (n k : ℕ) (e : ℕ × List ℕ) (es : Values) → n ≢ k → eqb e.0 n ≡ t → has (without n es) k ≡ has es k → has (cond t (without n es) (e ∷ without n es)) k ≡ has (e ∷ es) k
without_other_by true n k e es other here rest = rest ∙ sym (has_after e es k (λ same. other (sym (eqb-true e.0 n here) ∙ same)))
without_other_by false n k e es other here rest = has-cons e (without n es) es k rest

has-without_other : (n k : ℕ) (es : Values) → n ≢ k → has (without n es) k ≡ has es k
has-without_other n k [] other = refl
has-without_other n k (e ∷ es) other = without_other_by (eqb e.0 n) n k e es other refl (has-without_other n k es other)

-- a number is taken out of the set, and the others stay
pub numbered_without : (old new : Bitmap) (n : ℕ) (es : Values) → Numbers old es → contains new n ≡ false → ((k : ℕ) → k ≢ n → contains new k ≡ contains old k) → Numbers new (without n es)
numbered_without old new n es numbered removed others = λ k.
    elim (cases_eq n k) [
      | inl same ↦ ap (contains new) (sym same) ∙ removed ∙ sym (has-without_same n es) ∙ ap (has (without n es)) same
      | inr other ↦ others k (λ e. other (sym e)) ∙ numbered k ∙ sym (has-without_other n k es other)
    ]

absent_by : (t : Bool) (n : ℕ) (e : ℕ × List ℕ) (es : Values) → eqb e.0 n ≡ t → has (e ∷ es) n ≡ false → (has es n ≡ false → es ≡ without n es) → e ∷ es ≡ cond t (without n es) (e ∷ without n es)
absent_by true n e es here none rest = absurd (let both : true ≡ false = sym (has_here e es n (eqb-true e.0 n here)) ∙ none in cc)
absent_by false n e es here none rest =
    let other : e.0 ≢ n = λ same. let t : eqb e.0 n ≡ true = grind (arith, nat_tests) in absurd (let both : true ≡ false = sym t ∙ here in cc) in
    ap (λ (l : Values). e ∷ l) (rest (sym (has_after e es n other) ∙ none))

-- without an element that isn't there
pub without_absent : (n : ℕ) (es : Values) → has es n ≡ false → es ≡ without n es
without_absent n [] none = refl
without_absent n (e ∷ es) none = absent_by (eqb e.0 n) n e es refl none (without_absent n es)

-- ---- elements with the numbers of a set

has_above : (low : ℕ) (es : Values) (k : ℕ) → IsAscending low es → 128 < k → has es k ≡ false
has_above low [] k asc lt = refl
has_above low (e ∷ es) k asc lt = has_after e es k (λ same. omega (arith, asc.1, lt, same)) ∙ has_above (e.0 + 1) es k asc.3 lt

pub ascending_members : (set : Bitmap) (es : Values) → AreElements (contains set) → numbers_of es ≡ members set → IsAscending 2 es
ascending_members set es are same = (made_from_set (contains set) es (none_65 set are) same).ascending

pub numbered_members : (set : Bitmap) (es : Values) → AreElements (contains set) → numbers_of es ≡ members set → Numbers set es
numbered_members set es are same =
    let made = made_from_set (contains set) es (none_65 set are) same in λ k.
    elim (cases_lt k 2) [
      | inl low ↦ none_low set k are low ∙ sym (has_below 2 es k made.ascending low)
      | inr from ↦
          elim (cases_lt 128 k) [
            | inl high ↦ none_high set k are high ∙ sym (has_above 2 es k made.ascending high)
            | inr within ↦ sym (made.agrees k from within)
          ]
    ]

-- what holds after either end of a call, by two clauses of each
pub by_result : {A B C D Z : Type 0} (r : Result Unit AllocError) → OnOk r A → OnOk r B → OnErr r C → OnErr r D → (A → B → Z) → (C → D → Z) → Z
by_result (Ok u) a b c d done kept = done a b
by_result (Err e) a b c d done kept = kept c d
