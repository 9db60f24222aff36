-- A message type that is written is read again, and one that is read is the one that was written.
use Rattle.std.proofs.Common.{◌≡◌, ℕ, ◌+◌, ◌-◌, ◌*◌, ◌/◌, ◌%◌, ◌≤◌, ◌<◌, true, List, [], ◌∷◌, length, get_or, Some, refl, ap, ◌∙◌, arith}
use Rattle.std.proofs.lemmas.Bool.{and_parts}
use Rattle.std.proofs.lemmas.Bool.Decides.{nat_tests}
use Rattle.std.proofs.lemmas.Option.{cond_some}
use Rattle.iso_parts.specs.declared.digits.Digits.{Digits}
use Rattle.iso_parts.specs.declared.digits.Digits.TheVariants as digits
use Rattle.iso_parts.specs.Class.{is_digit}
use Rattle.iso_parts.specs.Mti.{mti_size}
use Rattle.iso_parts.specs.Digits.{four_digits, four_digits_of, four_digits_in}

is_digit-within : (a : ℕ) → 48 ≤ a → a ≤ 57 → is_digit a ≡ true
is_digit-within a low high = grind (arith, nat_tests)

digit_low : (a : ℕ) → is_digit a ≡ true → 48 ≤ a
digit_low a h = grind (arith, nat_tests)

digit_high : (a : ℕ) → is_digit a ≡ true → a ≤ 57
digit_high a h = grind (arith, nat_tests)

record AreDigits (a b c d n : ℕ) : Type 0 where
  pub a_low : 48 ≤ a
  pub a_high : a ≤ 57
  pub b_low : 48 ≤ b
  pub b_high : b ≤ 57
  pub c_low : 48 ≤ c
  pub c_high : c ≤ 57
  pub d_low : 48 ≤ d
  pub d_high : d ≤ 57
  pub value : 1000 * (a - 48) + 100 * (b - 48) + 10 * (c - 48) + (d - 48) ≡ n

four_again : (a b c d n : ℕ) → AreDigits a b c d n → four_digits a b c d ≡ Some n
four_again a b c d n h = rw (is_digit-within a h.a_low h.a_high, is_digit-within b h.b_low h.b_high, is_digit-within c h.c_low h.c_high, is_digit-within d h.d_low h.d_high) (ap Some h.value)

four_takes : (a b c d n : ℕ) → four_digits a b c d ≡ Some n → AreDigits a b c d n
four_takes a b c d n h =
    let got = cond_some _ _ _ h in
    let one = and_parts _ _ got.0 in
    let two = and_parts _ _ one.0 in
    let three = and_parts _ _ two.0 in
    record {
      a_low = digit_low a three.0;
      a_high = digit_high a three.0;
      b_low = digit_low b three.1;
      b_high = digit_high b three.1;
      c_low = digit_low c two.1;
      c_high = digit_high c two.1;
      d_low = digit_low d one.1;
      d_high = digit_high d one.1;
      value = got.1;
    }

pub length-four_digits_of : (k : Digits) (n : ℕ) → length (four_digits_of k n) ≡ mti_size k
length-four_digits_of digits.Ascii n = refl
length-four_digits_of digits.Bcd n = refl

pub mti_again : (k : Digits) (n : ℕ) → n < 10000 → four_digits_in k (four_digits_of k n) ≡ Some n
mti_again digits.Ascii n lt = four_again (48 + n / 1000) (48 + n / 100 % 10) (48 + n / 10 % 10) (48 + n % 10) n (record { a_low = omega arith; a_high = omega arith; b_low = omega arith; b_high = omega arith; c_low = omega arith; c_high = omega arith; d_low = omega arith; d_high = omega arith; value = omega arith })
mti_again digits.Bcd n lt =
    let x = 16 * (n / 1000) + n / 100 % 10 in
    let y = 16 * (n / 10 % 10) + n % 10 in
    four_again (48 + x / 16) (48 + x % 16) (48 + y / 16) (48 + y % 16) n (record { a_low = omega arith; a_high = omega arith; b_low = omega arith; b_high = omega arith; c_low = omega arith; c_high = omega arith; d_low = omega arith; d_high = omega arith; value = omega arith })

pub record IsType (k : Digits) (n : ℕ) (p : List ℕ) : Type 0 where
  pub bytes : p ≡ four_digits_of k n
  pub small : n < 10000

pub mti_takes : (k : Digits) (n : ℕ) (p : List ℕ) → ((i : ℕ) → get_or p i 0 < 256) → four_digits_in k p ≡ Some n → IsType k n p
mti_takes digits.Ascii n (a ∷ b ∷ c ∷ d ∷ []) fits h =
    let f = four_takes a b c d n h in
    record {
      bytes = ap (λ (x : ℕ). x ∷ b ∷ c ∷ d ∷ []) (omega arith) ∙ ap (λ (x : ℕ). (48 + n / 1000) ∷ x ∷ c ∷ d ∷ []) (omega arith) ∙ ap (λ (x : ℕ). (48 + n / 1000) ∷ (48 + n / 100 % 10) ∷ x ∷ d ∷ []) (omega arith) ∙ ap (λ (x : ℕ). (48 + n / 1000) ∷ (48 + n / 100 % 10) ∷ (48 + n / 10 % 10) ∷ x ∷ []) (omega arith);
      small = omega arith;
    }
mti_takes digits.Ascii n [] fits h = absurd cc
mti_takes digits.Ascii n (a ∷ []) fits h = absurd cc
mti_takes digits.Ascii n (a ∷ b ∷ []) fits h = absurd cc
mti_takes digits.Ascii n (a ∷ b ∷ c ∷ []) fits h = absurd cc
mti_takes digits.Ascii n (a ∷ b ∷ c ∷ d ∷ e ∷ p) fits h = absurd cc
mti_takes digits.Bcd n (x ∷ y ∷ []) fits h =
    let f = four_takes (48 + x / 16) (48 + x % 16) (48 + y / 16) (48 + y % 16) n h in
    record { bytes = ap (λ (z : ℕ). z ∷ y ∷ []) (omega arith) ∙ ap (λ (z : ℕ). (16 * (n / 1000) + n / 100 % 10) ∷ z ∷ []) (omega arith); small = omega arith }
mti_takes digits.Bcd n [] fits h = absurd cc
mti_takes digits.Bcd n (x ∷ []) fits h = absurd cc
mti_takes digits.Bcd n (x ∷ y ∷ z ∷ p) fits h = absurd cc
