-- The first bit of a word is the lowest number of its set, and the other bits are the others.
use Rattle.std.proofs.Common.{◌≡◌, ℕ, suc, ◌+◌, ◌-◌, ◌*◌, ◌^◌, ◌<◌, ◌≤◌, [], ◌∷◌, refl, sym, ap, subst, ◌∙◌, arith, inl, inr}
use Rattle.std.specs.Int.{bit_at}
use Rattle.std.proofs.lemmas.Bool.{cases_lt}
use Rattle.std.proofs.lemmas.Bool.Decides.{nat_tests}
use Rattle.std.proofs.Math.Nat.{pow-suc}
use Rattle.std.proofs.lemmas.Nat.Bits.{bit_at-zero, bit_at_above, bit_at_cat_low, bit_at_cat_high}
use Rattle.iso_parts.specs.Bitmap.{in_words}
use Rattle.iso_parts.specs.Bits.{TakesFirstBit}
use Rattle.iso_parts.specs.Numbers.{numbers_in}
use Rattle.iso_parts.proofs.NumberLaws.{IsLowest, numbers_lowest, numbers_agree, numbers_none}

-- bit i is the first one of a word, and the rest has the others
record IsFirstBit (w rest i : ℕ) : Type 0 where
  pub top : bit_at w i ≡ 1
  pub above : (j : ℕ) → i < j → bit_at w j ≡ 0
  pub gone : (j : ℕ) → i ≤ j → bit_at rest j ≡ 0
  pub same : (j : ℕ) → j < i → bit_at rest j ≡ bit_at w j

one_bit : (i : ℕ) → bit_at 1 (i - i) ≡ 1
one_bit i = let none : i - i ≡ 0 = omega arith in ap (bit_at 1) none

first_bit : (w i : ℕ) → 2 ^ i ≤ w → w < 2 ^ suc i → IsFirstBit w (w - 2 ^ i) i
first_bit w i low high =
    let rest = w - 2 ^ i in
    let whole : w ≡ 1 * 2 ^ i + rest = omega arith in
    let small : rest < 2 ^ i = omega (arith, pow-suc 2 i) in
    record {
      top = ap (λ (n : ℕ). bit_at n i) whole ∙ bit_at_cat_high 1 i rest i small (omega arith) ∙ one_bit i;
      above = λ j lt. bit_at_above w (suc i) j high (omega arith);
      gone = λ j le. bit_at_above rest i j small le;
      same = λ j lt. sym (ap (λ (n : ℕ). bit_at n j) whole ∙ bit_at_cat_low 1 i rest j lt);
    }

-- without its first bit a primary bitmap has the same numbers
pub numbers_low : (w v : ℕ) → 2 ^ 63 ≤ w → w < 2 ^ 64 → numbers_in (w - 2 ^ 63) v ≡ numbers_in w v
numbers_low w v low high =
    let b = first_bit w 63 low high in
    numbers_agree (in_words (w - 2 ^ 63) v) (in_words w v) 127 2 (λ k from to.
    elim (cases_lt 64 k) [
      | inl above ↦ grind (arith, nat_tests)
      | inr below ↦ let h = b.same (64 - k) (omega arith) in grind (arith, nat_tests)
    ])

-- ---- the next number

first_is : (w rest v before i k : ℕ) → before + suc i ≡ 64 → 1 ≤ before → k ≡ before + 1 → IsFirstBit w rest i → IsLowest (in_words w v) (in_words rest v) 127 2 k
first_is w rest v before i k place behind is b =
    let at : 64 - k ≡ i = omega arith in
    record {
      low = omega arith;
      high = omega arith;
      here = let h : bit_at w (64 - k) ≡ 1 = ap (bit_at w) at ∙ b.top in grind (arith, nat_tests);
      below = λ j low high. let h = b.above (64 - j) (omega arith) in grind (arith, nat_tests);
      none = λ j low high. let h = b.gone (64 - j) (omega arith) in grind (arith, nat_tests);
      above = λ j low high.
          elim (cases_lt 64 j) [
            | inl large ↦ grind (arith, nat_tests)
            | inr small ↦ let h = b.same (64 - j) (omega arith) in grind (arith, nat_tests)
          ];
    }

-- bit 1 is not set in a word below 2 ^ 63
not_first : (w before i : ℕ) → w < 2 ^ 63 → before + suc i ≡ 64 → 2 ^ i ≤ w → 1 ≤ before
not_first w before i small place low =
    elim (cases_lt before 1) [
      | inl lt ↦ let e : i ≡ 63 = omega arith in let large : 2 ^ 63 ≤ w = subst (λ (k : ℕ). 2 ^ k ≤ w) e low in absurd (omega arith)
      | inr le ↦ le
    ]

pub next_first : (w rest v before : ℕ) → w < 2 ^ 63 → TakesFirstBit w rest before → numbers_in w v ≡ (before + 1) ∷ numbers_in rest v
next_first w rest v before small (i, place, low, high, is) =
    let behind : 1 ≤ before = not_first w before i small place low in
    let b : IsFirstBit w rest i = subst (λ (r : ℕ). IsFirstBit w r i) (sym is) (first_bit w i low high) in
    numbers_lowest (in_words w v) (in_words rest v) 127 2 (before + 1) (first_is w rest v before i (before + 1) place behind refl b)

second_is : (w rest before i k : ℕ) → before + suc i ≡ 64 → k ≡ before + 65 → IsFirstBit w rest i → IsLowest (in_words 0 w) (in_words 0 rest) 127 2 k
second_is w rest before i k place is b =
    let at : 128 - k ≡ i = omega arith in
    record {
      low = omega arith;
      high = omega arith;
      here = let h : bit_at w (128 - k) ≡ 1 = ap (bit_at w) at ∙ b.top in grind (arith, nat_tests);
      below = λ j low high.
          elim (cases_lt 64 j) [
            | inl large ↦ let h = b.above (128 - j) (omega arith) in grind (arith, nat_tests)
            | inr small ↦ let z = bit_at-zero (64 - j) in grind (arith, nat_tests)
          ];
      none = λ j low high.
          elim (cases_lt 64 j) [
            | inl large ↦ let h = b.gone (128 - j) (omega arith) in grind (arith, nat_tests)
            | inr small ↦ let z = bit_at-zero (64 - j) in grind (arith, nat_tests)
          ];
      above = λ j low high. let h = b.same (128 - j) (omega arith) in grind (arith, nat_tests);
    }

pub next_second : (w rest before : ℕ) → TakesFirstBit w rest before → numbers_in 0 w ≡ (before + 65) ∷ numbers_in 0 rest
next_second w rest before (i, place, low, high, is) =
    let b : IsFirstBit w rest i = subst (λ (r : ℕ). IsFirstBit w r i) (sym is) (first_bit w i low high) in
    numbers_lowest (in_words 0 w) (in_words 0 rest) 127 2 (before + 65) (second_is w rest before i (before + 65) place refl b)

pub none_left : numbers_in 0 0 ≡ []
none_left = numbers_none (in_words 0 0) 127 2 (λ k low high.
    elim (cases_lt 64 k) [
      | inl large ↦ let z = bit_at-zero (128 - k) in grind (arith, nat_tests)
      | inr small ↦ let z = bit_at-zero (64 - k) in grind (arith, nat_tests)
    ])
