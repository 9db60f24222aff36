-- The numbers of elements in ascending order, and the set that they make.
use Rattle.std.proofs.Common.{◌≡◌, ◌≢◌, ℕ, zero, suc, ◌+◌, ◌≤◌, ◌<◌, Bool, true, false, eqb, List, [], ◌∷◌, refl, sym, ap, subst, ◌∙◌, arith, inl, inr}
use Rattle.std.proofs.lemmas.Bool.{cases_eq}
use Rattle.std.proofs.lemmas.Bool.Decides.{nat_tests}
use Rattle.iso_wire.specs.Elements.{has, IsAscending}
use Rattle.iso_parts.specs.Numbers.{numbers}
use Rattle.iso_wire.proofs.NumberLaws.{one_more, no_more, no_numbers}
use Rattle.iso_wire.proofs.Orders.{numbers_of, Values}

-- below where it begins it has nothing
pub has_below : (low : ℕ) (es : Values) (k : ℕ) → IsAscending low es → k < low → has es k ≡ false
has_below low [] k asc lt = refl
has_below low (e ∷ es) k asc lt =
    let ne : eqb e.0 k ≡ false = grind (arith, nat_tests, asc.0) in
    rw ne (has_below (e.0 + 1) es k asc.3 (omega (arith, asc.0)))

pub has_here : (e : ℕ × List ℕ) (es : Values) (k : ℕ) → e.0 ≡ k → has (e ∷ es) k ≡ true
has_here e es k same = let t : eqb e.0 k ≡ true = grind (arith, nat_tests) in rw t refl

pub has_after : (e : ℕ × List ℕ) (es : Values) (k : ℕ) → e.0 ≢ k → has (e ∷ es) k ≡ has es k
has_after e es k other = let t : eqb e.0 k ≡ false = grind (arith, nat_tests) in rw t refl

-- ---- ascending elements have the numbers of their set

from_set : (count n : ℕ) (set : ℕ → Bool) (es : Values) → n + count ≡ 129 → IsAscending n es → ((k : ℕ) → n ≤ k → k ≤ 128 → set k ≡ has es k) → numbers_of es ≡ numbers set count n
from_set zero n set [] whole asc agrees = sym (no_numbers set n)
from_set zero n set (e ∷ es) whole asc agrees = absurd (omega (arith, asc.0, asc.1))
from_set (suc count) n set [] whole asc agrees =
    from_set count (n + 1) set [] (omega arith) tt (λ k low high. agrees k (omega arith) high) ∙ sym (no_more set count n (agrees n (omega arith) (omega arith)))
from_set (suc count) n set (e ∷ es) whole asc agrees =
    elim (cases_eq e.0 n) [
      | inl same ↦
          let here : set n ≡ true = agrees n (omega arith) (omega arith) ∙ has_here e es n same in
          let rest = from_set count (n + 1) set es (omega arith) (subst (λ (k : ℕ). IsAscending (k + 1) es) same asc.3) (λ k low high. agrees k (omega arith) high ∙ has_after e es k (λ q. omega arith)) in
          ap (λ (k : ℕ). k ∷ numbers_of es) same ∙ ap (λ (l : List ℕ). n ∷ l) rest ∙ sym (one_more set count n here)
      | inr other ↦
          let above : n + 1 ≤ e.0 = omega (arith, asc.0) in
          let later : IsAscending (n + 1) (e ∷ es) = (above, asc.1, asc.2, asc.3) in
          let absent : set n ≡ false = agrees n (omega arith) (omega arith) ∙ has_below (n + 1) (e ∷ es) n later (omega arith) in
          from_set count (n + 1) set (e ∷ es) (omega arith) later (λ k low high. agrees k (omega arith) high) ∙ sym (no_more set count n absent)
    ]

pub numbers_from_set : (set : ℕ → Bool) (es : Values) → IsAscending 2 es → ((k : ℕ) → 2 ≤ k → k ≤ 128 → set k ≡ has es k) → numbers_of es ≡ numbers set 127 2
numbers_from_set set es asc agrees = from_set 127 2 set es (omega arith) asc agrees

-- ---- elements with the numbers of a set ascend, and are those of the set

pub record Made (n : ℕ) (set : ℕ → Bool) (es : Values) : Type 0 where
  pub ascending : IsAscending n es
  pub agrees : (k : ℕ) → n ≤ k → k ≤ 128 → has es k ≡ set k

weaker : (n : ℕ) (es : Values) → IsAscending (n + 1) es → IsAscending n es
weaker n [] asc = tt
weaker n (e ∷ es) asc = (omega (arith, asc.0), asc.1, asc.2, asc.3)

made_by : (t : Bool) (count n : ℕ) (set : ℕ → Bool) (es : Values) → set n ≡ t → n + suc count ≡ 129 → set 65 ≡ false → ((es : Values) → numbers_of es ≡ numbers set count (n + 1) → Made (n + 1) set es) → numbers_of es ≡ numbers set (suc count) n → Made n set es
made_by false count n set es absent whole no_65 more_of same =
    let rest = more_of es (same ∙ no_more set count n absent) in
    record {
      ascending = weaker n es rest.ascending;
      agrees = λ k low high.
          elim (cases_eq k n) [
            | inl here ↦ rw here (has_below (n + 1) es n rest.ascending (omega arith) ∙ sym absent)
            | inr other ↦ rest.agrees k (omega arith) high
          ];
    }
made_by true count n set [] present whole no_65 more_of same = absurd (let x : [] ≡ n ∷ numbers set count (n + 1) = same ∙ one_more set count n present in cc)
made_by true count n set (e ∷ es) present whole no_65 more_of same =
    let both : e.0 ∷ numbers_of es ≡ n ∷ numbers set count (n + 1) = same ∙ one_more set count n present in
    let number : e.0 ≡ n = cc in
    let others : numbers_of es ≡ numbers set count (n + 1) = cc in
    let rest = more_of es others in
    let not_65 : e.0 ≢ 65 = λ is_65. absurd (let x : true ≡ false = sym present ∙ ap set (sym number ∙ is_65) ∙ no_65 in cc) in
    record {
      ascending = (omega arith, omega arith, not_65, subst (λ (k : ℕ). IsAscending (k + 1) es) (sym number) rest.ascending);
      agrees = λ k low high.
          elim (cases_eq k n) [
            | inl here ↦ has_here e es k (number ∙ sym here) ∙ sym present ∙ ap set (sym here)
            | inr other ↦ has_after e es k (λ q. other (sym q ∙ number)) ∙ rest.agrees k (omega arith) high
          ];
    }

made : (count n : ℕ) (set : ℕ → Bool) (es : Values) → n + count ≡ 129 → set 65 ≡ false → numbers_of es ≡ numbers set count n → Made n set es
made zero n set [] whole no_65 same = record { ascending = tt; agrees = λ k low high. absurd (omega arith) }
made zero n set (e ∷ es) whole no_65 same = absurd (let x : e.0 ∷ numbers_of es ≡ [] = same ∙ no_numbers set n in cc)
made (suc count) n set es whole no_65 same = made_by (set n) count n set es refl whole no_65 (λ es h. made count (n + 1) set es (omega arith) no_65 h) same

pub made_from_set : (set : ℕ → Bool) (es : Values) → set 65 ≡ false → numbers_of es ≡ numbers set 127 2 → Made 2 set es
made_from_set set es no_65 same = made 127 2 set es (omega arith) no_65 same
