-- A length that is written is read again, and one that is read is the one that was written.
use Rattle.std.proofs.Common.{◌≡◌, ℕ, ◌+◌, ◌-◌, ◌*◌, ◌/◌, ◌%◌, ◌≤◌, ◌<◌, Bool, true, false, cond, List, [], ◌∷◌, length, get_or, Some, None, Result, Ok, Err, refl, sym, ap, ◌∙◌, arith}
use Rattle.std.proofs.lemmas.List.{nil_from_length}
use Rattle.std.proofs.lemmas.Bool.{and_parts, eqb-true}
use Rattle.std.proofs.lemmas.Bool.Decides.{nat_tests}
use Rattle.iso_parts.specs.declared.digits.Digits.TheVariants as digits
use Rattle.iso_parts.specs.declared.prefix.Length.{Length}
use Rattle.iso_parts.specs.declared.prefix.Length.TheVariants as lengths
use Rattle.iso_parts.specs.declared.fault.FieldFault.{FieldFault}
use Rattle.iso_parts.specs.Class.{is_digit}
use Rattle.iso_parts.specs.Spec.{limit}
use Rattle.iso_parts.specs.Part.{prefix}
use Rattle.iso_parts.specs.Reading.{or_bad_length, number_of, count_of, prefix_size}

-- four digits, and their number
pub record AreDigits (k h t o n : ℕ) : Type 0 where
  pub k_low : 48 ≤ k
  pub k_high : k ≤ 57
  pub h_low : 48 ≤ h
  pub h_high : h ≤ 57
  pub t_low : 48 ≤ t
  pub t_high : t ≤ 57
  pub o_low : 48 ≤ o
  pub o_high : o ≤ 57
  pub value : 1000 * (k - 48) + 100 * (h - 48) + 10 * (t - 48) + (o - 48) ≡ n

is_digit-within : (a : ℕ) → 48 ≤ a → a ≤ 57 → is_digit a ≡ true
is_digit-within a low high = grind (arith, nat_tests)

number_again : (k h t o n : ℕ) → AreDigits k h t o n → number_of (k ∷ h ∷ t ∷ o ∷ []) ≡ Ok n
number_again k h t o n d =
    rw (is_digit-within k d.k_low d.k_high, is_digit-within h d.h_low d.h_high, is_digit-within t d.t_low d.t_high, is_digit-within o d.o_low d.o_high) (ap Ok d.value)

-- a test that passed
pub chosen_ok : {A : Type 0} (b : Bool) (d : FieldFault) (x y : A) → cond b (Ok x) (Err d) ≡ Ok y → (b ≡ true) × (x ≡ y)
chosen_ok true d x y e = (refl, cc)
chosen_ok false d x y e = absurd cc

pub chosen_first : {A : Type 0} (b : Bool) (d : FieldFault) (r : Result A FieldFault) {y : A} → cond b r (Err d) ≡ Ok y → (b ≡ true) × (r ≡ Ok y)
chosen_first true d r e = (refl, e)
chosen_first false d r e = absurd cc

digit_low : (a : ℕ) → is_digit a ≡ true → 48 ≤ a
digit_low a h = grind (arith, nat_tests)

digit_high : (a : ℕ) → is_digit a ≡ true → a ≤ 57
digit_high a h = grind (arith, nat_tests)

told_length : (b : Bool) (v n : ℕ) → or_bad_length (cond b (Some v) None) ≡ Ok n → (b ≡ true) × (v ≡ n)
told_length true v n e = (refl, cc)
told_length false v n e = absurd cc

pub number_takes : (k h t o n : ℕ) → number_of (k ∷ h ∷ t ∷ o ∷ []) ≡ Ok n → AreDigits k h t o n
number_takes k h t o n e =
    let got = told_length _ _ _ e in
    let first = and_parts _ _ got.0 in
    let second = and_parts _ _ first.0 in
    let third = and_parts _ _ second.0 in
    record {
      k_low = digit_low k third.0;
      k_high = digit_high k third.0;
      h_low = digit_low h third.1;
      h_high = digit_high h third.1;
      t_low = digit_low t second.1;
      t_high = digit_high t second.1;
      o_low = digit_low o first.1;
      o_high = digit_high o first.1;
      value = got.1;
    }

-- the digits of a number
digits_of : (n k h t o : ℕ) → 48 + n / 1000 ≡ k → 48 + n / 100 % 10 ≡ h → 48 + n / 10 % 10 ≡ t → 48 + n % 10 ≡ o → n ≤ 9999 → number_of (k ∷ h ∷ t ∷ o ∷ []) ≡ Ok n
digits_of n k h t o ks hs ts os le = number_again k h t o n (record {
  k_low = omega arith;
  k_high = omega arith;
  h_low = omega arith;
  h_high = omega arith;
  t_low = omega arith;
  t_high = omega arith;
  o_low = omega arith;
  o_high = omega arith;
  value = omega arith;
})

pub count_again : (k : Length) (max n : ℕ) → n ≤ limit k → (k ≡ lengths.Fixed → n ≡ max) → count_of k max (prefix k n) ≡ Ok n
count_again lengths.Fixed max n le fixed = ap Ok (sym (fixed refl))
count_again (lengths.LL digits.Ascii) max n le fixed = digits_of n 48 48 (48 + n / 10) (48 + n % 10) (omega arith) (omega arith) (omega arith) refl (omega arith)
count_again (lengths.LL digits.Bcd) max n le fixed =
    let x = 16 * (n / 10) + n % 10 in
    digits_of n 48 48 (48 + x / 16) (48 + x % 16) (omega arith) (omega arith) (omega arith) (omega arith) (omega arith)
count_again (lengths.LLL digits.Ascii) max n le fixed = digits_of n 48 (48 + n / 100) (48 + n / 10 % 10) (48 + n % 10) (omega arith) (omega arith) refl refl (omega arith)
count_again (lengths.LLL digits.Bcd) max n le fixed =
    let y = 16 * (n / 10 % 10) + n % 10 in
    let x = n / 100 in
    let zero_first : 48 + x / 16 ≡ 48 = omega arith in
    rw zero_first (digits_of n 48 (48 + x % 16) (48 + y / 16) (48 + y % 16) (omega arith) (omega arith) (omega arith) (omega arith) (omega arith))
count_again (lengths.LLLL digits.Ascii) max n le fixed = digits_of n (48 + n / 1000) (48 + n / 100 % 10) (48 + n / 10 % 10) (48 + n % 10) refl refl refl refl le
count_again (lengths.LLLL digits.Bcd) max n le fixed =
    let x = 16 * (n / 1000) + n / 100 % 10 in
    let y = 16 * (n / 10 % 10) + n % 10 in
    digits_of n (48 + x / 16) (48 + x % 16) (48 + y / 16) (48 + y % 16) (omega arith) (omega arith) (omega arith) (omega arith) le

-- the bytes of a length that was read are those of its count
pub record IsLengthPrefix (k : Length) (n : ℕ) (p : List ℕ) : Type 0 where
  pub bytes : p ≡ prefix k n
  pub small : n ≤ limit k

pub count_takes : (k : Length) (max n : ℕ) (p : List ℕ) → (k ≡ lengths.Fixed → max ≤ limit k) → length p ≡ prefix_size k → ((i : ℕ) → get_or p i 0 < 256) → count_of k max p ≡ Ok n → IsLengthPrefix k n p
count_takes lengths.Fixed max n p small len fits h = record { bytes = nil_from_length p len; small = let e : max ≡ n = cc in omega (arith, small refl) }
count_takes (lengths.LL digits.Ascii) max n (t ∷ o ∷ []) small len fits h =
    let d = number_takes 48 48 t o n h in
    record { bytes = ap (λ (x : ℕ). x ∷ o ∷ []) (omega arith) ∙ ap (λ (x : ℕ). (48 + n / 10) ∷ x ∷ []) (omega arith); small = omega arith }
count_takes (lengths.LL digits.Ascii) max n [] small len fits h = absurd (omega arith)
count_takes (lengths.LL digits.Ascii) max n (t ∷ []) small len fits h = absurd (omega arith)
count_takes (lengths.LL digits.Ascii) max n (t ∷ o ∷ x ∷ p) small len fits h = absurd (omega arith)
count_takes (lengths.LL digits.Bcd) max n (x ∷ []) small len fits h =
    let d = number_takes 48 48 (48 + x / 16) (48 + x % 16) n h in
    record { bytes = ap (λ (x : ℕ). x ∷ []) (omega arith); small = omega arith }
count_takes (lengths.LL digits.Bcd) max n [] small len fits h = absurd (omega arith)
count_takes (lengths.LL digits.Bcd) max n (x ∷ y ∷ p) small len fits h = absurd (omega arith)
count_takes (lengths.LLL digits.Ascii) max n (h ∷ t ∷ o ∷ []) small len fits e =
    let d = number_takes 48 h t o n e in
    record { bytes = ap (λ (x : ℕ). x ∷ t ∷ o ∷ []) (omega arith) ∙ ap (λ (x : ℕ). (48 + n / 100) ∷ x ∷ o ∷ []) (omega arith) ∙ ap (λ (x : ℕ). (48 + n / 100) ∷ (48 + n / 10 % 10) ∷ x ∷ []) (omega arith); small = omega arith }
count_takes (lengths.LLL digits.Ascii) max n [] small len fits h = absurd (omega arith)
count_takes (lengths.LLL digits.Ascii) max n (t ∷ []) small len fits h = absurd (omega arith)
count_takes (lengths.LLL digits.Ascii) max n (t ∷ o ∷ []) small len fits h = absurd (omega arith)
count_takes (lengths.LLL digits.Ascii) max n (t ∷ o ∷ x ∷ y ∷ p) small len fits h = absurd (omega arith)
count_takes (lengths.LLL digits.Bcd) max n (x ∷ y ∷ []) small len fits h =
    let got = chosen_first _ _ _ h in
    let zero_first : 48 + x / 16 ≡ 48 = eqb-true _ _ got.0 in
    let d = number_takes (48 + x / 16) (48 + x % 16) (48 + y / 16) (48 + y % 16) n got.1 in
    record { bytes = ap (λ (z : ℕ). z ∷ y ∷ []) (omega arith) ∙ ap (λ (z : ℕ). (n / 100) ∷ z ∷ []) (omega arith); small = omega arith }
count_takes (lengths.LLL digits.Bcd) max n [] small len fits h = absurd (omega arith)
count_takes (lengths.LLL digits.Bcd) max n (x ∷ []) small len fits h = absurd (omega arith)
count_takes (lengths.LLL digits.Bcd) max n (x ∷ y ∷ z ∷ p) small len fits h = absurd (omega arith)
count_takes (lengths.LLLL digits.Ascii) max n (k ∷ h ∷ t ∷ o ∷ []) small len fits e =
    let d = number_takes k h t o n e in
    record {
      bytes = ap (λ (x : ℕ). x ∷ h ∷ t ∷ o ∷ []) (omega arith) ∙ ap (λ (x : ℕ). (48 + n / 1000) ∷ x ∷ t ∷ o ∷ []) (omega arith)
          ∙ ap (λ (x : ℕ). (48 + n / 1000) ∷ (48 + n / 100 % 10) ∷ x ∷ o ∷ []) (omega arith) ∙ ap (λ (x : ℕ). (48 + n / 1000) ∷ (48 + n / 100 % 10) ∷ (48 + n / 10 % 10) ∷ x ∷ []) (omega arith);
      small = omega arith;
    }
count_takes (lengths.LLLL digits.Ascii) max n [] small len fits h = absurd (omega arith)
count_takes (lengths.LLLL digits.Ascii) max n (t ∷ []) small len fits h = absurd (omega arith)
count_takes (lengths.LLLL digits.Ascii) max n (t ∷ o ∷ []) small len fits h = absurd (omega arith)
count_takes (lengths.LLLL digits.Ascii) max n (t ∷ o ∷ x ∷ []) small len fits h = absurd (omega arith)
count_takes (lengths.LLLL digits.Ascii) max n (t ∷ o ∷ x ∷ y ∷ z ∷ p) small len fits h = absurd (omega arith)
count_takes (lengths.LLLL digits.Bcd) max n (x ∷ y ∷ []) small len fits h =
    let d = number_takes (48 + x / 16) (48 + x % 16) (48 + y / 16) (48 + y % 16) n h in
    record { bytes = ap (λ (z : ℕ). z ∷ y ∷ []) (omega arith) ∙ ap (λ (z : ℕ). (16 * (n / 1000) + n / 100 % 10) ∷ z ∷ []) (omega arith); small = omega arith }
count_takes (lengths.LLLL digits.Bcd) max n [] small len fits h = absurd (omega arith)
count_takes (lengths.LLLL digits.Bcd) max n (x ∷ []) small len fits h = absurd (omega arith)
count_takes (lengths.LLLL digits.Bcd) max n (x ∷ y ∷ z ∷ p) small len fits h = absurd (omega arith)
