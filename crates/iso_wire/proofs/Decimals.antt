-- The numbers that digits write, and the digits of numbers.
use Rattle.std.proofs.Common.{◌≡◌, ℕ, zero, suc, ◌+◌, ◌-◌, ◌*◌, ◌/◌, ◌%◌, ◌^◌, ◌<◌, ◌≤◌, true, List, [], ◌∷◌, ◌++◌, length, length-append, get_or, take, refl, ap, subst, ◌∙◌, arith, add-one, le-leb}
use Rattle.std.proofs.Math.Nat.{pow-le-pow_right}
use Rattle.std.proofs.Math.Seq.{take-suc}
use native.Mathlib.Numerals.{unary_clauses}
use Rattle.std.specs.Prelude.{◌&&◌, nat_le, Option, Some, None, IfSome}
use Rattle.std.specs.List.{list_all}
use Rattle.std.proofs.lemmas.Bool.{and_parts, and_from, leb-true}
use Rattle.std.proofs.lemmas.Bool.Decides.{nat_tests}
use Rattle.std.proofs.lemmas.List.Folds.{list_all-append}
use Rattle.iso_parts.specs.Class.{is_digit}
use Rattle.iso_wire.specs.Decimal.{decimal, are_digits, number_after, number}

-- a digit behind the others
number_after-push : (n : ℕ) (ds : List ℕ) (d : ℕ) → number_after n (ds ++ d ∷ []) ≡ 10 * number_after n ds + (d - 48)
number_after-push n [] d = refl
number_after-push n (c ∷ cs) d = number_after-push (10 * n + (c - 48)) cs d

-- one digit more
pub number-more : (ds : List ℕ) (i : ℕ) → i < length ds → number (take (i + 1) ds) ≡ 10 * number (take i ds) + (get_or ds i 0 - 48)
number-more ds i lt =
    rw add-one (ap number (take-suc ds i 0 lt) ∙ number_after-push 0 (take i ds) (get_or ds i 0))

-- every place of digits has one
pub digit_at : (ds : List ℕ) (i : ℕ) → list_all is_digit ds ≡ true → i < length ds → (48 ≤ get_or ds i 0) × (get_or ds i 0 ≤ 57)
digit_at [] i all lt = absurd (omega arith)
digit_at (d ∷ ds) zero all lt = let first = and_parts (is_digit d) (list_all is_digit ds) all in grind (arith, nat_tests)
digit_at (d ∷ ds) (suc i) all lt = digit_at ds i (and_parts (is_digit d) (list_all is_digit ds) all).1 (omega arith)

-- one digit more is below the next power of ten
pub power-more : (n i d : ℕ) → n < 10 ^ i → d ≤ 9 → 10 * n + d < 10 ^ (i + 1)
power-more n i d lt le =
    let next : 10 ^ (i + 1) ≡ 10 ^ i * 10 = simp unary_clauses refl in
    omega arith

-- nineteen digits fit 64 bits
pub power-fits : (n i k : ℕ) → n < 10 ^ i → i < k → k ≤ 19 → 10 * n + 9 < 2 ^ 64
power-fits n i k lt less le =
    let ten : 0 < 10 = omega arith in
    let within : i + 1 ≤ 19 = omega arith in
    let most : 10 ^ (i + 1) ≤ 10 ^ 19 = pow-le-pow_right ten {i = i + 1} {j = 19} within in
    let more_of = power-more n i 9 lt (omega arith) in
    let whole : 10 ^ 19 < 2 ^ 64 = omega arith in
    omega arith

-- fewer digits than there may be
power-up : (n i k : ℕ) → n < 10 ^ i → i ≤ k → n < 10 ^ k
power-up n i k lt le =
    let ten : 0 < 10 = omega arith in
    let most : 10 ^ i ≤ 10 ^ k = pow-le-pow_right ten {i = i} {j = k} le in
    omega arith

-- how many digits there may be
pub are_digits-most : (least most : ℕ) (text : List ℕ) → are_digits least most text ≡ true → length text ≤ most
are_digits-most least most text h =
    let sizes = and_parts (nat_le least (length text) && nat_le (length text) most) (list_all is_digit text) h in
    leb-true (length text) most (and_parts (nat_le least (length text)) (nat_le (length text) most) sizes.0).1

digit-small : (d : ℕ) → is_digit d ≡ true → d - 48 ≤ 9
digit-small d h = grind (arith, nat_tests)

number_after-below : (b n : ℕ) (text : List ℕ) → list_all is_digit text ≡ true → b < 10 ^ n → number_after b text < 10 ^ (n + length text)
number_after-below b n [] all lt = let same : n + 0 ≡ n = omega arith in rw same lt
number_after-below b n (d ∷ ds) all lt =
    let both = and_parts (is_digit d) (list_all is_digit ds) all in
    let place : n + length (d ∷ ds) ≡ (n + 1) + length ds = omega arith in
    rw place (number_after-below (10 * b + (d - 48)) (n + 1) ds both.1 (power-more b n (d - 48) lt (digit-small d both.0)))

-- how large the number of so many digits can be
pub number-most : (least most : ℕ) (text : List ℕ) → are_digits least most text ≡ true → number text < 10 ^ most
number-most least most text h =
    let all = (and_parts (nat_le least (length text) && nat_le (length text) most) (list_all is_digit text) h).1 in
    let own : 0 + length text ≡ length text = omega arith in
    let below : number text < 10 ^ length text = subst (λ (k : ℕ). number text < 10 ^ k) own (number_after-below 0 0 text all (omega arith)) in
    power-up (number text) (length text) most below (are_digits-most least most text h)

-- a number of few digits is one of at most so many
pub below_most : (r : Option ℕ) (k most : ℕ) → k ≤ most → IfSome r (λ n. n < 10 ^ k) → IfSome r (λ n. n < 10 ^ most)
below_most None k most le below = tt
below_most (Some n) k most le below = power-up n k most below le

-- ---- a number in so many digits

-- the remainder by ten is a digit
last_digit : (v : ℕ) → is_digit (48 + v % 10) ≡ true
last_digit v = grind (arith, nat_tests)

-- what is written is digits
pub list_all-decimal : (n v : ℕ) → list_all is_digit (decimal n v) ≡ true
list_all-decimal zero v = refl
list_all-decimal (suc n) v =
    let last = (48 + v % 10) ∷ [] in
    list_all-append is_digit (decimal n (v / 10)) last ∙ and_from _ _ (list_all-decimal n (v / 10)) (and_from _ _ (last_digit v) refl)

-- as many as there are places
pub length-decimal : (n v : ℕ) → length (decimal n v) ≡ n
length-decimal zero v = refl
length-decimal (suc n) v =
    let before = length-decimal n (v / 10) in
    length-append (decimal n (v / 10)) ((48 + v % 10) ∷ []) ∙ omega arith

power_next : (n : ℕ) → 10 ^ suc n ≡ 10 ^ n * 10
power_next n = simp unary_clauses refl

-- they write the number
pub number-decimal : (n v : ℕ) → v < 10 ^ n → number (decimal n v) ≡ v
number-decimal zero v lt = omega arith
number-decimal (suc n) v lt =
    let next = power_next n in
    let front : number (decimal n (v / 10)) ≡ v / 10 = number-decimal n (v / 10) (omega arith) in
    number_after-push 0 (decimal n (v / 10)) (48 + v % 10) ∙ omega (arith, front)

-- a text of so many digits
pub are_digits-decimal : (n v : ℕ) → are_digits n n (decimal n v) ≡ true
are_digits-decimal n v =
    let size = length-decimal n v in
    and_from _ _ (and_from _ _ (le-leb n (length (decimal n v)) (omega arith)) (le-leb (length (decimal n v)) n (omega arith))) (list_all-decimal n v)
