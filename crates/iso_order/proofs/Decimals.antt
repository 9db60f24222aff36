-- Numbers in decimal digits.
use Rattle.std.proofs.Common.{◌≡◌, ◌≢◌, ℕ, zero, suc, ◌+◌, ◌-◌, ◌*◌, ◌/◌, ◌%◌, ◌^◌, ◌<◌, ◌≤◌, Bool, true, false, List, [], ◌∷◌, ◌++◌, length, inl, inr, refl, sym, ap, ◌∙◌, arith, le-leb}
use Rattle.std.specs.Prelude.{◌==◌, ◌⊎◌, if◌then◌else◌}
use native.Mathlib.Numerals.{unary_clauses}
use Rattle.std.proofs.Math.Nat.{pow-le-pow_right}
use Rattle.std.specs.List.{list_all}
use Rattle.std.proofs.lemmas.Bool.{and_parts, and_from, cases_lt}
use Rattle.std.proofs.lemmas.Bool.Decides.{nat_tests}
use Rattle.iso_wire.specs.Decimal.{decimal, are_digits, number_after, number}
use Rattle.iso_wire.specs.DecimalLaws.{DecimalLaws}
use Rattle.iso_order.specs.Requests.{AcquirersInOwnDigits, shortest, acquirer_code}
use Rattle.iso_parts.specs.Class.{is_digit}

power_next : (n : ℕ) → 10 ^ suc n ≡ 10 ^ n * 10
power_next n = simp unary_clauses refl

-- ---- so many digits

-- a text of so many digits
pub digits-by : (least most : ℕ) (text : List ℕ) → least ≤ length text → length text ≤ most → list_all is_digit text ≡ true → are_digits least most text ≡ true
digits-by least most text low high all =
    and_from _ _ (and_from _ _ (le-leb least (length text) low) (le-leb (length text) most high)) all

-- ---- without the zeros before them

digits_by : (t : Bool) (more whole : List ℕ) → list_all is_digit more ≡ true → list_all is_digit whole ≡ true → list_all is_digit (if t then more else whole) ≡ true
digits_by true more whole a b = a
digits_by false more whole a b = b

list_all-shortest : (ds : List ℕ) → list_all is_digit ds ≡ true → list_all is_digit (shortest ds) ≡ true
list_all-shortest [] all = refl
list_all-shortest (d ∷ []) all = all
list_all-shortest (d ∷ e ∷ ds) all =
    digits_by (d == 48) (shortest (e ∷ ds)) (d ∷ e ∷ ds) (list_all-shortest (e ∷ ds) (and_parts (is_digit d) (list_all is_digit (e ∷ ds)) all).1) all

sizes_by : (t : Bool) (more whole : List ℕ) (most : ℕ) → (1 ≤ length more) × (length more ≤ most) → (1 ≤ length whole) × (length whole ≤ most) → (1 ≤ length (if t then more else whole)) × (length (if t then more else whole) ≤ most)
sizes_by true more whole most a b = a
sizes_by false more whole most a b = b

-- at least one digit stays
length-shortest : (d : ℕ) (ds : List ℕ) → (1 ≤ length (shortest (d ∷ ds))) × (length (shortest (d ∷ ds)) ≤ length (d ∷ ds))
length-shortest d [] = (omega arith, omega arith)
length-shortest d (e ∷ ds) =
    let rest = length-shortest e ds in
    sizes_by (d == 48) (shortest (e ∷ ds)) (d ∷ e ∷ ds) (length (d ∷ e ∷ ds)) (rest.0, omega (arith, rest.1)) (omega arith, omega arith)

number_by : (t : Bool) (d : ℕ) (more ds : List ℕ) → (d == 48) ≡ t → number more ≡ number ds → number (if t then more else d ∷ ds) ≡ number (d ∷ ds)
number_by true d more ds is same =
    let none : 10 * 0 + (d - 48) ≡ 0 = grind (arith, nat_tests) in
    same ∙ sym (ap (λ (n : ℕ). number_after n ds) none)
number_by false d more ds is same = refl

-- zeros before it don't change a number
number-shortest : (ds : List ℕ) → number (shortest ds) ≡ number ds
number-shortest [] = refl
number-shortest (d ∷ []) = refl
number-shortest (d ∷ e ∷ ds) = number_by (d == 48) d (shortest (e ∷ ds)) (e ∷ ds) refl (number-shortest (e ∷ ds))

-- ---- the acquirer

some_digits : (ds : List ℕ) → length ds ≡ 11 → (1 ≤ length (shortest ds)) × (length (shortest ds) ≤ 11)
some_digits [] size = absurd (omega arith)
some_digits (d ∷ ds) size = let sizes = length-shortest d ds in (sizes.0, omega (arith, sizes.1))

module _ (decimals : DecimalLaws) where
  pub are_digits-acquirer : (v : ℕ) → are_digits 1 11 (acquirer_code v) ≡ true
  unfolding acquirer_code
  are_digits-acquirer v =
      let sizes = some_digits (decimal 11 v) (decimals.size 11 v) in
      digits-by 1 11 (shortest (decimal 11 v)) sizes.0 sizes.1 (list_all-shortest (decimal 11 v) (decimals.digits 11 v))

  pub number-acquirer : (v : ℕ) → v < 10 ^ 11 → number (acquirer_code v) ≡ v
  unfolding acquirer_code
  number-acquirer v lt = number-shortest (decimal 11 v) ∙ decimals.number 11 v lt

-- ---- a number has its own digits

-- a digit more than needed is a zero before the others
zero-before : (n v : ℕ) → v < 10 ^ n → decimal (suc n) v ≡ 48 ∷ decimal n v
zero-before zero v lt = let none : v ≡ 0 = omega arith in rw none refl
zero-before (suc n) v lt =
    let next = power_next n in
    ap (λ (ds : List ℕ). ds ++ (48 + v % 10) ∷ []) (zero-before n (v / 10) (omega arith))

abbrev NoZero : List ℕ → Type 0
NoZero ds = (d : ℕ) × (rest : List ℕ) × (ds ≡ d ∷ rest) × (d ≢ 48)

-- no digit that is needed is a zero before the others
no_zero-before : (n v : ℕ) → 10 ^ n ≤ v → v < 10 ^ suc n → NoZero (decimal (suc n) v)
no_zero-before zero v low high = (48 + v % 10, [], refl, λ is. omega arith)
no_zero-before (suc n) v low high =
    let here = power_next n in
    let next = power_next (suc n) in
    let front = no_zero-before n (v / 10) (omega arith) (omega arith) in
    (front.0, front.1 ++ (48 + v % 10) ∷ [], ap (λ (ds : List ℕ). ds ++ (48 + v % 10) ∷ []) front.2, front.3)

shortest-same : (d : ℕ) (ds : List ℕ) → d ≢ 48 → shortest (d ∷ ds) ≡ d ∷ ds
shortest-same d [] other = refl
shortest-same d (e ∷ ds) other = let no : (d == 48) ≡ false = grind (arith, nat_tests) in rw no refl

shortest-zero : (ds : List ℕ) → 1 ≤ length ds → shortest (48 ∷ ds) ≡ shortest ds
shortest-zero [] some = absurd (omega arith)
shortest-zero (d ∷ ds) some = refl

shortest-own : (n v : ℕ) → v < 10 ^ suc n → (suc n ≡ 1) ⊎ (10 ^ n ≤ v) → shortest (decimal (suc n) v) ≡ decimal (suc n) v
shortest-own zero v lt least = refl
shortest-own (suc n) v lt (inl one) = absurd (omega arith)
shortest-own (suc n) v lt (inr low) =
    let front = no_zero-before (suc n) v low lt in
    rw front.2 (shortest-same front.0 front.1 front.3)

-- a number of at most eleven digits
few-digits : (n v : ℕ) → v ≤ 99999999999 → (n ≡ 1) ⊎ (10 ^ (n - 1) ≤ v) → n ≤ 11
few-digits n v small (inl one) = omega arith
few-digits n v small (inr low) = few_by (cases_lt (n - 1) 11)
  where
    few_by : (n - 1 < 11) ⊎ (11 ≤ n - 1) → n ≤ 11
    few_by (inl few) = omega arith
    few_by (inr many) =
        let ten : 0 < 10 = omega arith in
        let least : 10 ^ 11 ≤ 10 ^ (n - 1) = pow-le-pow_right ten {i = 11} {j = n - 1} many in
        let whole : 99999999999 < 10 ^ 11 = omega arith in
        absurd (omega arith)

module _ (decimals : DecimalLaws) where
  shortest-more : (n k v : ℕ) → 1 ≤ n → v < 10 ^ n → shortest (decimal (k + n) v) ≡ shortest (decimal n v)
  shortest-more n zero v some lt = let none : 0 + n ≡ n = omega arith in rw none refl
  shortest-more n (suc k) v some lt =
      let size = decimals.size (k + n) v in
      let next : suc k + n ≡ suc (k + n) = omega arith in
      let ten : 0 < 10 = omega arith in
      let most : 10 ^ n ≤ 10 ^ (k + n) = pow-le-pow_right ten {i = n} {j = k + n} (omega arith) in
      ap (λ (i : ℕ). shortest (decimal i v)) next
      ∙ ap shortest (zero-before (k + n) v (omega arith))
      ∙ shortest-zero (decimal (k + n) v) (omega arith)
      ∙ shortest-more n k v some lt

  -- an acquirer of n digits, the first of which is needed, is written with these
  acquirer-own : (n v : ℕ) → 1 ≤ n → n ≤ 11 → v < 10 ^ n → (n ≡ 1) ⊎ (10 ^ (n - 1) ≤ v) → acquirer_code v ≡ decimal n v
  unfolding acquirer_code
  acquirer-own zero v some few lt least = absurd (omega arith)
  acquirer-own (suc n) v some few lt least =
      let whole : 10 - n + suc n ≡ 11 = omega arith in
      let before : suc n - 1 ≡ n = omega arith in
      ap (λ (k : ℕ). shortest (decimal k v)) (sym whole) ∙ shortest-more (suc n) (10 - n) v some lt ∙ shortest-own n v lt (rw before at least)

-- the law of own digits
pub own_digits_lem : DecimalLaws → AcquirersInOwnDigits
own_digits_lem decimals digits v some few lt least =
    let most = few-digits digits v few least in
    (most, acquirer-own decimals digits v some most lt least)
