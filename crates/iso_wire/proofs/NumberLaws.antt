-- The numbers of a set: none, one more, and which of them has no row.
use Rattle.std.proofs.Common.{◌≡◌, ℕ, zero, suc, ◌+◌, ◌≤◌, ◌<◌, Bool, true, false, is_some, is_none, List, [], ◌∷◌, Option, Some, None, refl, sym, ap, ◌∙◌, arith}
use Rattle.iso_parts.specs.declared.spec.FieldSpec.{FieldSpec}
use Rattle.iso_table.specs.Layout.{row_at}
use Rattle.iso_parts.specs.Numbers.{numbers, first_missing}
use Rattle.iso_wire.specs.Numbers.{unknown}

pub one_more : (set : ℕ → Bool) (count n : ℕ) → set n ≡ true → numbers set (suc count) n ≡ n ∷ numbers set count (n + 1)
unfolding numbers
one_more set count n h = rw h refl

pub no_more : (set : ℕ → Bool) (count n : ℕ) → set n ≡ false → numbers set (suc count) n ≡ numbers set count (n + 1)
unfolding numbers
no_more set count n h = rw h refl

pub no_numbers : (set : ℕ → Bool) (n : ℕ) → numbers set zero n ≡ []
unfolding numbers
no_numbers set n = refl

-- ---- two sets

next_by : (t : Bool) (set other : ℕ → Bool) (count n : ℕ) → set n ≡ t → other n ≡ t → numbers set count (n + 1) ≡ numbers other count (n + 1) → numbers set (suc count) n ≡ numbers other (suc count) n
next_by true set other count n here there rest = one_more set count n here ∙ ap (λ (l : List ℕ). n ∷ l) rest ∙ sym (one_more other count n there)
next_by false set other count n here there rest = no_more set count n here ∙ rest ∙ sym (no_more other count n there)

-- sets that agree have the same numbers
pub numbers_agree : (set other : ℕ → Bool) (count n : ℕ) → ((k : ℕ) → n ≤ k → k < n + count → set k ≡ other k) → numbers set count n ≡ numbers other count n
numbers_agree set other zero n agrees = no_numbers set n ∙ sym (no_numbers other n)
numbers_agree set other (suc count) n agrees =
    next_by (set n) set other count n refl (sym (agrees n (omega arith) (omega arith))) (numbers_agree set other count (n + 1) (λ k low high. agrees k (omega arith) (omega arith)))

-- an empty set has none
pub numbers_none : (set : ℕ → Bool) (count n : ℕ) → ((k : ℕ) → n ≤ k → k < n + count → set k ≡ false) → numbers set count n ≡ []
numbers_none set zero n empty = no_numbers set n
numbers_none set (suc count) n empty = no_more set count n (empty n (omega arith) (omega arith)) ∙ numbers_none set count (n + 1) (λ k low high. empty k (omega arith) (omega arith))

-- ---- rows

some_not_none : {A : Type 0} (o : Option A) → is_some o ≡ true → is_none o ≡ false
some_not_none None h = absurd cc
some_not_none (Some x) h = refl

none_not_some : {A : Type 0} (o : Option A) → is_some o ≡ false → is_none o ≡ true
none_not_some None h = refl
none_not_some (Some x) h = absurd cc

pub known_next : (rows : List (Option FieldSpec)) (n : ℕ) (ns : List ℕ) → is_some (row_at rows n) ≡ true → unknown rows (n ∷ ns) ≡ unknown rows ns
known_next rows n ns h = let e = some_not_none (row_at rows n) h in rw e refl

pub unknown_here : (rows : List (Option FieldSpec)) (n : ℕ) (ns : List ℕ) → is_none (row_at rows n) ≡ true → unknown rows (n ∷ ns) ≡ Some n
unknown_here rows n ns h = rw h refl

known_by_set : (t : Bool) (rows : List (Option FieldSpec)) (set : ℕ → Bool) (count n : ℕ) → set n ≡ t → ((k : ℕ) → n ≤ k → k < n + suc count → set k ≡ true → is_some (row_at rows k) ≡ true) → unknown rows (numbers set count (n + 1)) ≡ None → unknown rows (numbers set (suc count) n) ≡ None
known_by_set true rows set count n here known rest = ap (unknown rows) (one_more set count n here) ∙ known_next rows n (numbers set count (n + 1)) (known n (omega arith) (omega arith) here) ∙ rest
known_by_set false rows set count n here known rest = ap (unknown rows) (no_more set count n here) ∙ rest

-- where each number of the set has a row, none is without
pub all_known : (rows : List (Option FieldSpec)) (set : ℕ → Bool) (count n : ℕ) → ((k : ℕ) → n ≤ k → k < n + count → set k ≡ true → is_some (row_at rows k) ≡ true) → unknown rows (numbers set count n) ≡ None
all_known rows set zero n known = ap (unknown rows) (no_numbers set n)
all_known rows set (suc count) n known = known_by_set (set n) rows set count n refl known (all_known rows set count (n + 1) (λ k low high here. known k (omega arith) (omega arith) here))

-- the first number that the set of those with a row lacks is the first one without a row
missing_by : (is : Bool) (rows : List (Option FieldSpec)) (set : ℕ → Bool) (n : ℕ) (ns : List ℕ) → set n ≡ is → set n ≡ is_some (row_at rows n) → first_missing set ns ≡ unknown rows ns → first_missing set (n ∷ ns) ≡ unknown rows (n ∷ ns)
missing_by true rows set n ns is same rest = let known = some_not_none (row_at rows n) (sym same ∙ is) in rw (is, known) rest
missing_by false rows set n ns is same rest = let unknown = none_not_some (row_at rows n) (sym same ∙ is) in rw (is, unknown) refl

pub missing_unknown : (rows : List (Option FieldSpec)) (set : ℕ → Bool) (ns : List ℕ) → ((k : ℕ) → set k ≡ is_some (row_at rows k)) → first_missing set ns ≡ unknown rows ns
missing_unknown rows set [] same = refl
missing_unknown rows set (n ∷ ns) same = missing_by (set n) rows set n ns refl (same n) (missing_unknown rows set ns same)
