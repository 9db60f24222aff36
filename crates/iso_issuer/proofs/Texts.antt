-- Texts of digits, and the account numbers that they are.
use Rattle.std.proofs.Common.{◌≡◌, ℕ, ◌+◌, ◌-◌, ◌*◌, ◌≤◌, Bool, true, false, refl, arith, ap, sym, ◌∙◌, List, [], ◌∷◌, length}
use Rattle.std.specs.Prelude.{◌&&◌, nat_le, Some, None, option_map, if◌then◌else◌}
use Rattle.std.specs.List.{list_all}
use Rattle.std.proofs.lemmas.Bool.{and_parts}
use Rattle.std.proofs.lemmas.Bool.Decides.{nat_tests}
use Rattle.iso_order.specs.Pan.{AccountNumber, pan_of}
use Rattle.iso_wire.specs.Decimal.{are_digits, number_after, number, is_digit}

digit-bounds : (d : ℕ) → is_digit d ≡ true → (48 ≤ d) × (d ≤ 57)
digit-bounds d h =
    let parts = and_parts (nat_le 48 d) (nat_le d 57) h in
    let low = parts.0 in
    let high = parts.1 in
    (grind (arith, nat_tests, low), grind (arith, nat_tests, high))

-- as many digits that write one number are the same digits
digits-apart : (x y : ℕ) (a b : List ℕ) → length a ≡ length b → list_all is_digit a ≡ true → list_all is_digit b ≡ true → number_after x a ≡ number_after y b → (x ≡ y) × (a ≡ b)
digits-apart x y [] [] count p q h = (h, refl)
digits-apart x y [] (e ∷ es) count p q h = absurd (omega arith)
digits-apart x y (d ∷ ds) [] count p q h = absurd (omega arith)
digits-apart x y (d ∷ ds) (e ∷ es) count p q h =
    let ps = and_parts (is_digit d) (list_all is_digit ds) p in
    let qs = and_parts (is_digit e) (list_all is_digit es) q in
    let left = digit-bounds d ps.0 in
    let right = digit-bounds e qs.0 in
    let rest = digits-apart (10 * x + (d - 48)) (10 * y + (e - 48)) ds es (omega arith) ps.1 qs.1 h in
    let front : x ≡ y = omega (arith, rest.0, left.0, left.1, right.0, right.1) in
    let digit : d ≡ e = omega (arith, rest.0, left.0, left.1, right.0, right.1) in
    (front, cc (digit, rest.1))

-- a text of an account number is one of digits
pan-digits : (text : List ℕ) (p : AccountNumber) → pan_of text ≡ Some p → (list_all is_digit text ≡ true) × (number text ≡ p.digits) × (length text ≡ p.len)
pan-digits text p h = by_test (are_digits 1 19 text) refl h
  where
    by_test : (t : Bool) → are_digits 1 19 text ≡ t → option_map (λ n. record { digits = n; len = length text }) (if t then Some (number text) else None) ≡ Some p
        → (list_all is_digit text ≡ true) × (number text ≡ p.digits) × (length text ≡ p.len)
    by_test true e h =
        let parts = and_parts (nat_le 1 (length text) && nat_le (length text) 19) (list_all is_digit text) e in
        let is : ◌≡◌ {A = AccountNumber} (record { digits = number text; len = length text }) p = cc in
        (parts.1, ap (λ (q : AccountNumber). q.digits) is, ap (λ (q : AccountNumber). q.len) is)
    by_test false e h = cc

-- texts that are one account number are one text
pub texts-apart : (a b : List ℕ) (p : AccountNumber) → pan_of a ≡ Some p → pan_of b ≡ Some p → a ≡ b
texts-apart a b p h k =
    let left = pan-digits a p h in
    let right = pan-digits b p k in
    (digits-apart 0 0 a b (left.2 ∙ sym right.2) left.0 right.0 (left.1 ∙ sym right.1)).1
