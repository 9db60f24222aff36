-- The numbers of a set: none, one more, the lowest, how many, and which of them another set lacks.
use Rattle.std.proofs.Common.{◌≡◌, ℕ, zero, suc, ◌+◌, ◌≤◌, ◌<◌, Bool, true, false, List, [], ◌∷◌, None, refl, sym, ap, ◌∙◌, arith, inl, inr}
use Rattle.std.proofs.lemmas.Bool.{cases_eq}
use Rattle.iso_parts.specs.Numbers.{numbers, first_missing}

pub one_more : (set : ℕ → Bool) (count n : ℕ) → set n ≡ true → numbers set (suc count) n ≡ n ∷ numbers set count (n + 1)
unfolding numbers
one_more set count n h = rw h refl

pub no_more : (set : ℕ → Bool) (count n : ℕ) → set n ≡ false → numbers set (suc count) n ≡ numbers set count (n + 1)
unfolding numbers
no_more set count n h = rw h refl

pub no_numbers : (set : ℕ → Bool) (n : ℕ) → numbers set zero n ≡ []
unfolding numbers
no_numbers set n = refl

-- ---- two sets

next_by : (t : Bool) (set other : ℕ → Bool) (count n : ℕ) → set n ≡ t → other n ≡ t → numbers set count (n + 1) ≡ numbers other count (n + 1) → numbers set (suc count) n ≡ numbers other (suc count) n
next_by true set other count n here there rest = one_more set count n here ∙ ap (λ (l : List ℕ). n ∷ l) rest ∙ sym (one_more other count n there)
next_by false set other count n here there rest = no_more set count n here ∙ rest ∙ sym (no_more other count n there)

-- sets that agree have the same numbers
pub numbers_agree : (set other : ℕ → Bool) (count n : ℕ) → ((k : ℕ) → n ≤ k → k < n + count → set k ≡ other k) → numbers set count n ≡ numbers other count n
numbers_agree set other zero n agrees = no_numbers set n ∙ sym (no_numbers other n)
numbers_agree set other (suc count) n agrees =
    next_by (set n) set other count n refl (sym (agrees n (omega arith) (omega arith))) (numbers_agree set other count (n + 1) (λ k low high. agrees k (omega arith) (omega arith)))

-- an empty set has none
pub numbers_none : (set : ℕ → Bool) (count n : ℕ) → ((k : ℕ) → n ≤ k → k < n + count → set k ≡ false) → numbers set count n ≡ []
numbers_none set zero n empty = no_numbers set n
numbers_none set (suc count) n empty = no_more set count n (empty n (omega arith) (omega arith)) ∙ numbers_none set count (n + 1) (λ k low high. empty k (omega arith) (omega arith))

-- the lowest number k of a set, and the others
pub record IsLowest (set other : ℕ → Bool) (count n k : ℕ) : Type 0 where
  pub low : n ≤ k
  pub high : k < n + count
  pub here : set k ≡ true
  pub below : (j : ℕ) → n ≤ j → j < k → set j ≡ false
  pub none : (j : ℕ) → n ≤ j → j ≤ k → other j ≡ false
  pub above : (j : ℕ) → k < j → j < n + count → other j ≡ set j

pub numbers_lowest : (set other : ℕ → Bool) (count n k : ℕ) → IsLowest set other count n k → numbers set count n ≡ k ∷ numbers other count n
numbers_lowest set other zero n k h = absurd (omega (arith, h.low, h.high))
numbers_lowest set other (suc count) n k h =
    elim (cases_eq n k) [
      | inl same ↦
          let here : set n ≡ true = ap set same ∙ h.here in
          let gone : other n ≡ false = h.none n (omega arith) (omega arith) in
          one_more set count n here
          ∙ ap (λ (l : List ℕ). n ∷ l) (numbers_agree set other count (n + 1) (λ j low high. sym (h.above j (omega arith) (omega arith))) ∙ sym (no_more other count n gone))
          ∙ ap (λ (m : ℕ). m ∷ numbers other (suc count) n) same
      | inr ne ↦
          let lt : n < k = omega (arith, h.low) in
          let rest : IsLowest set other count (n + 1) k = record {
            low = omega arith;
            high = omega (arith, h.high);
            here = h.here;
            below = λ j low high. h.below j (omega arith) high;
            none = λ j low high. h.none j (omega arith) high;
            above = λ j low high. h.above j low (omega arith);
          } in
          no_more set count n (h.below n (omega arith) lt) ∙ numbers_lowest set other count (n + 1) k rest ∙ ap (λ (l : List ℕ). k ∷ l) (sym (no_more other count n (h.none n (omega arith) (omega arith))))
    ]

-- ---- numbers that another set lacks

pub missing_next : (other : ℕ → Bool) (n : ℕ) (ns : List ℕ) → other n ≡ true → first_missing other (n ∷ ns) ≡ first_missing other ns
missing_next other n ns h = rw h refl

all_there_by : (t : Bool) (other set : ℕ → Bool) (count n : ℕ) → set n ≡ t → ((k : ℕ) → set k ≡ true → other k ≡ true) → first_missing other (numbers set count (n + 1)) ≡ None → first_missing other (numbers set (suc count) n) ≡ None
all_there_by true other set count n here there rest = ap (first_missing other) (one_more set count n here) ∙ missing_next other n (numbers set count (n + 1)) (there n here) ∙ rest
all_there_by false other set count n here there rest = ap (first_missing other) (no_more set count n here) ∙ rest

-- where the other set has each number, it lacks none
pub all_there : (other set : ℕ → Bool) (count n : ℕ) → ((k : ℕ) → set k ≡ true → other k ≡ true) → first_missing other (numbers set count n) ≡ None
all_there other set zero n there = ap (first_missing other) (no_numbers set n)
all_there other set (suc count) n there = all_there_by (set n) other set count n refl there (all_there other set count (n + 1) there)
