-- The numbers of a set: those below one of them, and the lowest one without a row.
use Rattle.std.proofs.Common.{◌≡◌, ℕ, zero, suc, ◌+◌, ◌≤◌, ◌<◌, Bool, true, false, is_some, is_none, List, [], ◌∷◌, ◌++◌, Option, Some, None, refl, sym, ap, subst, ◌∙◌, arith, inl, inr}
use Rattle.std.proofs.lemmas.Bool.{cases_eq, cases_lt}
use Rattle.std.proofs.lemmas.Bool.Decides.{nat_tests}
use Rattle.iso_parts.specs.declared.spec.FieldSpec.{FieldSpec}
use Rattle.iso_table.specs.Layout.{row_at}
use Rattle.iso_parts.specs.Numbers.{numbers}
use Rattle.iso_wire.specs.Numbers.{unknown}
use Rattle.iso_wire.specs.Stops.{below}
use Rattle.iso_wire.proofs.NumberLaws.{one_more, no_more, no_numbers, numbers_none, known_next, unknown_here}

-- ---- the numbers below one of a set

below_none : (set : ℕ → Bool) (n k : ℕ) → n ≤ k → below n set k ≡ false
below_none set n k le = grind (arith, nat_tests)

below_same : (set : ℕ → Bool) (n k : ℕ) → k < n → below n set k ≡ set k
below_same set n k lt = grind (arith, nat_tests)

step_below : (t : Bool) (set : ℕ → Bool) (count low n : ℕ) (xs : List ℕ) → set low ≡ t → low < n → numbers set count (low + 1) ≡ numbers (below n set) count (low + 1) ++ xs → numbers set (suc count) low ≡ numbers (below n set) (suc count) low ++ xs
step_below true set count low n xs is lt rest =
    one_more set count low is ∙ ap (λ (l : List ℕ). low ∷ l) rest ∙ ap (λ (l : List ℕ). l ++ xs) (sym (one_more (below n set) count low (below_same set n low lt ∙ is)))
step_below false set count low n xs is lt rest =
    no_more set count low is ∙ rest ∙ ap (λ (l : List ℕ). l ++ xs) (sym (no_more (below n set) count low (below_same set n low lt ∙ is)))

-- a number of the set stands behind those below it
pub behind_below : (set : ℕ → Bool) (count low n : ℕ) → low ≤ n → n < low + count → set n ≡ true → (others : List ℕ) × (numbers set count low ≡ numbers (below n set) count low ++ n ∷ others)
behind_below set zero low n from to here = absurd (omega (arith, from, to))
behind_below set (suc count) low n from to here =
    elim (cases_eq low n) [
      | inl same ↦
          let others : List ℕ = numbers set count (low + 1) in (
            others,
            one_more set count low (ap set same ∙ here)
                ∙ ap (λ (k : ℕ). k ∷ others) same
                ∙ ap (λ (l : List ℕ). l ++ n ∷ others) (sym (numbers_none (below n set) (suc count) low (λ k from to. below_none set n k (omega arith)))),
          )
      | inr ne ↦
          let rest = behind_below set count (low + 1) n (omega arith) (omega arith) here in
          (rest.0, step_below (set low) set count low n (n ∷ rest.0) refl (omega arith) rest.1)
    ]

-- the numbers before n are those below it
pub record IsSplit (set : ℕ → Bool) (count low n : ℕ) (front : List ℕ) : Type 0 where
  pub from : low ≤ n
  pub to : n < low + count
  pub here : set n ≡ true
  pub before : front ≡ numbers (below n set) count low

split_by : (t : Bool) (set : ℕ → Bool) (count low n : ℕ) (front others : List ℕ) → set low ≡ t → ((xs : List ℕ) → numbers set count (low + 1) ≡ xs ++ n ∷ others → IsSplit set count (low + 1) n xs) → numbers set (suc count) low ≡ front ++ n ∷ others → IsSplit set (suc count) low n front
split_by false set count low n front others is next h =
    let rest = next front (sym (no_more set count low is) ∙ h) in
    record {
      from = omega (arith, rest.from);
      to = omega (arith, rest.to);
      here = rest.here;
      before = rest.before ∙ sym (no_more (below n set) count low (below_same set n low (omega (arith, rest.from)) ∙ is));
    }
split_by true set count low n [] others is next h =
    let both : low ∷ numbers set count (low + 1) ≡ n ∷ others = sym (one_more set count low is) ∙ h in
    let same : low ≡ n = cc in
    record {
      from = omega arith;
      to = omega arith;
      here = ap set (sym same) ∙ is;
      before = sym (numbers_none (below n set) (suc count) low (λ k from to. below_none set n k (omega arith)));
    }
split_by true set count low n (x ∷ front) others is next h =
    let both : low ∷ numbers set count (low + 1) ≡ x ∷ (front ++ n ∷ others) = sym (one_more set count low is) ∙ h in
    let same : low ≡ x = cc in
    let rest = next front (let later : numbers set count (low + 1) ≡ front ++ n ∷ others = cc in later) in
    record {
      from = omega (arith, rest.from);
      to = omega (arith, rest.to);
      here = rest.here;
      before = ap (λ (k : ℕ). k ∷ front) (sym same) ∙ ap (λ (l : List ℕ). low ∷ l) rest.before ∙ sym (one_more (below n set) count low (below_same set n low (omega (arith, rest.from)) ∙ is));
    }

no_split : (n : ℕ) (front others : List ℕ) → [] ≡ front ++ n ∷ others → ⊥
no_split n [] others h = absurd cc
no_split n (x ∷ front) others h = absurd cc

pub is_split : (set : ℕ → Bool) (count low n : ℕ) (front others : List ℕ) → numbers set count low ≡ front ++ n ∷ others → IsSplit set count low n front
is_split set zero low n front others h = absurd (no_split n front others (sym (no_numbers set low) ∙ h))
is_split set (suc count) low n front others h = split_by (set low) set count low n front others refl (λ xs more. is_split set count (low + 1) n xs others more) h

-- ---- the lowest number without a row

none_is : {A : Type 0} (o : Option A) → is_none o ≡ true → o ≡ None
none_is None h = refl
none_is (Some x) h = absurd cc

is_there : {A : Type 0} (o : Option A) → is_none o ≡ false → is_some o ≡ true
is_there None h = absurd cc
is_there (Some x) h = refl

pub some_is : {A : Type 0} (o : Option A) → is_some o ≡ true → (x : A) × (o ≡ Some x)
some_is None h = absurd cc
some_is (Some x) h = (x, refl)

-- each number of the set in the range has a row
abbrev AreKnownBetween : List (Option FieldSpec) → (ℕ → Bool) → ℕ → ℕ → Type 0
AreKnownBetween rows set low end = (k : ℕ) → low ≤ k → k < end → set k ≡ true → is_some (row_at rows k) ≡ true

pub record IsLowestUnknown (rows : List (Option FieldSpec)) (set : ℕ → Bool) (low end n : ℕ) : Type 0 where
  pub from : low ≤ n
  pub to : n < end
  pub there : set n ≡ true
  pub row : row_at rows n ≡ None
  pub others : AreKnownBetween rows set low n

one_known : (rows : List (Option FieldSpec)) (set : ℕ → Bool) (low end : ℕ) → (set low ≡ true → is_some (row_at rows low) ≡ true) → AreKnownBetween rows set (low + 1) end → AreKnownBetween rows set low end
one_known rows set low end first rest k from to here =
    elim (cases_eq low k) [
      | inl same ↦ subst (λ (n : ℕ). is_some (row_at rows n) ≡ true) same (first (ap set same ∙ here))
      | inr ne ↦ rest k (omega arith) to here
    ]

known_by : (t u : Bool) (rows : List (Option FieldSpec)) (set : ℕ → Bool) (count low : ℕ) → set low ≡ t → is_none (row_at rows low) ≡ u → (unknown rows (numbers set count (low + 1)) ≡ None → AreKnownBetween rows set (low + 1) (low + suc count)) → unknown rows (numbers set (suc count) low) ≡ None → AreKnownBetween rows set low (low + suc count)
known_by false u rows set count low is row next h =
    one_known rows set low (low + suc count) (λ here. absurd (let other : true ≡ false = sym here ∙ is in cc)) (next (ap (unknown rows) (sym (no_more set count low is)) ∙ h))
known_by true true rows set count low is row next h =
    absurd (let other : Some low ≡ None = sym (ap (unknown rows) (one_more set count low is) ∙ unknown_here rows low (numbers set count (low + 1)) row) ∙ h in cc)
known_by true false rows set count low is row next h =
    let there = is_there (row_at rows low) row in
    one_known rows set low (low + suc count) (λ here. there) (next (sym (ap (unknown rows) (one_more set count low is) ∙ known_next rows low (numbers set count (low + 1)) there) ∙ h))

-- where none is unknown, each number has a row
pub all_have_rows : (rows : List (Option FieldSpec)) (set : ℕ → Bool) (count low : ℕ) → unknown rows (numbers set count low) ≡ None → AreKnownBetween rows set low (low + count)
all_have_rows rows set zero low h = λ k from to here. absurd (omega arith)
all_have_rows rows set (suc count) low h =
    known_by (set low) (is_none (row_at rows low)) rows set count low refl refl (λ none k from to here. all_have_rows rows set count (low + 1) none k from (omega arith) here) h

lowest_by : (t u : Bool) (rows : List (Option FieldSpec)) (set : ℕ → Bool) (count low n : ℕ) → set low ≡ t → is_none (row_at rows low) ≡ u → (unknown rows (numbers set count (low + 1)) ≡ Some n → IsLowestUnknown rows set (low + 1) (low + suc count) n)
    → unknown rows (numbers set (suc count) low) ≡ Some n → IsLowestUnknown rows set low (low + suc count) n
lowest_by false u rows set count low n is row next h =
    let rest = next (ap (unknown rows) (sym (no_more set count low is)) ∙ h) in
    record {
      from = omega (arith, rest.from);
      to = rest.to;
      there = rest.there;
      row = rest.row;
      others = one_known rows set low n (λ here. absurd (let other : true ≡ false = sym here ∙ is in cc)) rest.others;
    }
lowest_by true true rows set count low n is row next h =
    let both : Some low ≡ Some n = sym (ap (unknown rows) (one_more set count low is) ∙ unknown_here rows low (numbers set count (low + 1)) row) ∙ h in
    let same : low ≡ n = cc in
    record {
      from = omega arith;
      to = omega arith;
      there = ap set (sym same) ∙ is;
      row = ap (row_at rows) (sym same) ∙ none_is (row_at rows low) row;
      others = λ k from to here. absurd (omega arith);
    }
lowest_by true false rows set count low n is row next h =
    let there = is_there (row_at rows low) row in
    let rest = next (sym (ap (unknown rows) (one_more set count low is) ∙ known_next rows low (numbers set count (low + 1)) there) ∙ h) in
    record {
      from = omega (arith, rest.from);
      to = rest.to;
      there = rest.there;
      row = rest.row;
      others = one_known rows set low n (λ here. there) rest.others;
    }

-- the first that is unknown is the lowest one
pub lowest_unknown : (rows : List (Option FieldSpec)) (set : ℕ → Bool) (count low n : ℕ) → unknown rows (numbers set count low) ≡ Some n → IsLowestUnknown rows set low (low + count) n
lowest_unknown rows set zero low n h = absurd (let other : None ≡ Some n = sym (ap (unknown rows) (no_numbers set low)) ∙ h in cc)
lowest_unknown rows set (suc count) low n h =
    lowest_by (set low) (is_none (row_at rows low)) rows set count low n refl refl (λ more.
    let rest = lowest_unknown rows set count (low + 1) n more in
    record { from = rest.from; to = omega (arith, rest.to); there = rest.there; row = rest.row; others = rest.others }) h

no_row : {A : Type 0} (o : Option A) → o ≡ None → is_some o ≡ true → ⊥
no_row None none h = absurd cc
no_row (Some x) none h = absurd cc

-- and the lowest one is the first
pub unknown_again : (rows : List (Option FieldSpec)) (set : ℕ → Bool) (count low n : ℕ) → IsLowestUnknown rows set low (low + count) n → unknown rows (numbers set count low) ≡ Some n
unknown_again rows set count low n h = by_answer (unknown rows (numbers set count low)) refl
  where
    by_answer : (o : Option ℕ) → unknown rows (numbers set count low) ≡ o → o ≡ Some n
    by_answer None is = absurd (no_row (row_at rows n) h.row (all_have_rows rows set count low is n h.from h.to h.there))
    by_answer (Some m) is =
        let other = lowest_unknown rows set count low m is in
        elim (cases_eq m n) [
          | inl same ↦ ap Some same
          | inr ne ↦
              elim (cases_lt m n) [
                | inl lt ↦ absurd (no_row (row_at rows m) other.row (h.others m other.from lt other.there))
                | inr le ↦ absurd (no_row (row_at rows n) h.row (other.others n h.from (omega arith) h.there))
              ]
        ]
