-- Parts of texts of digits.
use Rattle.std.proofs.Common.{◌≡◌, ℕ, zero, suc, ◌<◌, ◌≤◌, Bool, true, false, ◌&&◌, List, [], ◌∷◌, length, take, drop, refl, arith}
use Rattle.std.specs.Prelude.{Some, None, nat_le, ◌^◌, if◌then◌else◌}
use Rattle.std.specs.List.{list_all}
use Rattle.std.proofs.lemmas.Bool.{and_parts, leb-true}
use Rattle.std.proofs.lemmas.Bool.Decides.{nat_tests}
use Rattle.iso_order.specs.Pan.{is_pan}
use Rattle.iso_wire.specs.Decimal.{are_digits, number, number_in}
use Rattle.iso_parts.specs.Class.{is_digit}

pub list_all-take : {X : Type 0} (p : X → Bool) (n : ℕ) (xs : List X) → list_all p xs ≡ true → list_all p (take n xs) ≡ true
list_all-take p zero xs all = refl
list_all-take p (suc n) [] all = refl
list_all-take p (suc n) (x ∷ xs) all =
    let both = and_parts (p x) (list_all p xs) all in
    rw (both.0) (list_all-take p n xs both.1)

pub list_all-drop : {X : Type 0} (p : X → Bool) (n : ℕ) (xs : List X) → list_all p xs ≡ true → list_all p (drop n xs) ≡ true
list_all-drop p zero xs all = all
list_all-drop p (suc n) [] all = refl
list_all-drop p (suc n) (x ∷ xs) all = list_all-drop p n xs (and_parts (p x) (list_all p xs) all).1

-- how many digits there are, and may be
pub are_digits-least : (least most : ℕ) (text : List ℕ) → are_digits least most text ≡ true → least ≤ length text
are_digits-least least most text h =
    let sizes = and_parts (nat_le least (length text) && nat_le (length text) most) (list_all is_digit text) h in
    leb-true least (length text) (and_parts (nat_le least (length text)) (nat_le (length text) most) sizes.0).0

are_digits-most : (least most : ℕ) (text : List ℕ) → are_digits least most text ≡ true → length text ≤ most
are_digits-most least most text h =
    let sizes = and_parts (nat_le least (length text) && nat_le (length text) most) (list_all is_digit text) h in
    leb-true (length text) most (and_parts (nat_le least (length text)) (nat_le (length text) most) sizes.0).1

-- a number was read of digits
some_by : (t : Bool) (x n : ℕ) → (if t then Some x else None) ≡ Some n → t ≡ true
some_by true x n h = refl
some_by false x n h = absurd cc

pub number_in-digits : (least most : ℕ) (text : List ℕ) (n : ℕ) → number_in least most text ≡ Some n → are_digits least most text ≡ true
number_in-digits least most text n h = some_by (are_digits least most text) (number text) n h

pub pan-valid : (text : List ℕ) (n : ℕ) → number_in 1 19 text ≡ Some n → n < 10 ^ length text → is_pan (record { digits = n; len = length text }) ≡ true
pan-valid text n read below =
    let digits = number_in-digits 1 19 text n read in
    let least = are_digits-least 1 19 text digits in
    let most = are_digits-most 1 19 text digits in
    grind (arith, nat_tests)
