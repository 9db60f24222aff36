-- The bits of one word are among those of another one.
use Rattle.std.proofs.Common.{◌≡◌, ℕ, ◌-◌, ◌<◌, ◌≤◌, ◌^◌, true, min, inl, inr, sym, ap, subst, ◌∙◌, arith}
use Rattle.std.proofs.Math.Nat.{min-le_right, min-eq_left}
use Rattle.std.specs.Int.{bit_at}
use Rattle.std.specs.Int.Bits.{bit_and}
use Rattle.std.proofs.lemmas.Bool.{cases_lt}
use Rattle.std.proofs.lemmas.Bool.Decides.{nat_tests}
use Rattle.std.proofs.lemmas.Nat.{and_le_l}
use Rattle.std.proofs.lemmas.Nat.Bits.{bit_at-lt, bit_at_and, same_from_bits_below}
use Rattle.iso_parts.specs.Bitmap.{in_words}

-- each bit of the first word is one of the second
bit_within : (a b i : ℕ) → bit_and a b ≡ a → bit_at a i ≤ bit_at b i
bit_within a b i same =
    let least : min (bit_at a i) (bit_at b i) ≡ bit_at a i = sym (bit_at_and a b i) ∙ ap (λ (w : ℕ). bit_at w i) same in
    subst (λ (x : ℕ). x ≤ bit_at b i) least (min-le_right (bit_at a i) (bit_at b i))

word_within : (a b : ℕ) → a < 2 ^ 64 → ((i : ℕ) → i < 64 → bit_at a i ≤ bit_at b i) → bit_and a b ≡ a
word_within a b small all = same_from_bits_below 64 (bit_and a b) a (omega (arith, small, and_le_l a b)) small (λ i lt. bit_at_and a b i ∙ min-eq_left (all i lt))

-- the numbers of two words are among those of two others, if the bits are
pub words_within : (primary secondary f s : ℕ) → bit_and primary f ≡ primary → bit_and secondary s ≡ secondary → (n : ℕ) → in_words primary secondary n ≡ true → in_words f s n ≡ true
words_within primary secondary f s one two n is =
    let low = bit_within primary f (64 - n) one in
    let high = bit_within secondary s (128 - n) two in
    let a = bit_at-lt f (64 - n) in
    let b = bit_at-lt s (128 - n) in
    grind (arith, nat_tests)

pub first_within : (primary secondary f s : ℕ) → primary < 2 ^ 64 → ((n : ℕ) → in_words primary secondary n ≡ true → in_words f s n ≡ true) → bit_and primary f ≡ primary
first_within primary secondary f s small all =
    word_within primary f small (λ i lt.
    let here = all (64 - i) in
    let place : 64 - (64 - i) ≡ i = omega arith in
    let a = bit_at-lt primary i in
    elim (cases_lt 0 (bit_at primary i)) [
      | inl set ↦
          let one : in_words primary secondary (64 - i) ≡ true = rw place (grind (arith, nat_tests)) in
          let other = here one in
          let at : bit_at f (64 - (64 - i)) ≡ bit_at f i = ap (bit_at f) place in
          grind (arith, nat_tests)
      | inr none ↦ omega arith
    ])

pub second_within : (primary secondary f s : ℕ) → secondary < 2 ^ 64 → ((n : ℕ) → in_words primary secondary n ≡ true → in_words f s n ≡ true) → bit_and secondary s ≡ secondary
second_within primary secondary f s small all =
    word_within secondary s small (λ i lt.
    let here = all (128 - i) in
    let place : 128 - (128 - i) ≡ i = omega arith in
    let a = bit_at-lt secondary i in
    elim (cases_lt 0 (bit_at secondary i)) [
      | inl set ↦
          let one : in_words primary secondary (128 - i) ≡ true = rw place (grind (arith, nat_tests)) in
          let other = here one in
          let at : bit_at s (128 - (128 - i)) ≡ bit_at s i = ap (bit_at s) place in
          grind (arith, nat_tests)
      | inr none ↦ omega arith
    ])
