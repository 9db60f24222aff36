-- A message type's text is read as that type, and no other text is.
use Rattle.std.proofs.Common.{◌≡◌, ℕ, ◌+◌, ◌-◌, ◌<◌, true, List, [], ◌∷◌, Some, refl, ap, arith}
use Rattle.std.proofs.lemmas.Bool.{and_parts}
use Rattle.std.proofs.lemmas.Bool.Decides.{nat_tests}
use Rattle.std.proofs.lemmas.Option.{cond_some}
use Rattle.iso_parts.specs.declared.mti.Mti.{Mti}
use Rattle.iso_parts.specs.Class.{is_digit}
use Rattle.iso_parts.specs.Mti.{digits, digits_in}
use Rattle.iso_parts.specs.MtiText.{mti_text}

digit_is : (n : ℕ) → n < 10 → is_digit (48 + n) ≡ true
digit_is n lt = grind (arith, nat_tests)

back_is : (n : ℕ) → 48 + n - 48 ≡ n
back_is n = omega arith

pub text_read : (m : Mti) → digits_in (mti_text m) ≡ Some (digits m)
text_read m = rw (digit_is m.version m.version_digit, digit_is m.class m.class_digit, digit_is m.function m.function_digit, digit_is m.origin m.origin_digit, back_is m.version, back_is m.class, back_is m.function, back_is m.origin) refl

digit_back : (a n : ℕ) → is_digit a ≡ true → a - 48 ≡ n → a ≡ 48 + n
digit_back a n h e = grind (arith, nat_tests)

pub read_text : (text : List ℕ) (m : Mti) → digits_in text ≡ Some (digits m) → text ≡ mti_text m
read_text [] m h = absurd (cc)
read_text (a ∷ []) m h = absurd (cc)
read_text (a ∷ b ∷ []) m h = absurd (cc)
read_text (a ∷ b ∷ c ∷ []) m h = absurd (cc)
read_text (a ∷ b ∷ c ∷ d ∷ []) m h =
    let got = cond_some _ _ _ h in
    let one = and_parts _ _ got.0 in
    let two = and_parts _ _ one.0 in
    let three = and_parts _ _ two.0 in
    let p = digit_back a m.version three.0 (ap (λ (q : ℕ × ℕ × ℕ × ℕ). q.0) got.1) in
    let q = digit_back b m.class three.1 (ap (λ (q : ℕ × ℕ × ℕ × ℕ). q.1) got.1) in
    let r = digit_back c m.function two.1 (ap (λ (q : ℕ × ℕ × ℕ × ℕ). q.2) got.1) in
    let s = digit_back d m.origin one.1 (ap (λ (q : ℕ × ℕ × ℕ × ℕ). q.3) got.1) in
    cc
read_text (a ∷ b ∷ c ∷ d ∷ e ∷ rest) m h = absurd (cc)
