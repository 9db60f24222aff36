-- A set has as many numbers as its words have bits.
use Rattle.std.proofs.Common.{◌≡◌, ℕ, zero, suc, ◌+◌, ◌-◌, ◌*◌, ◌/◌, ◌%◌, ◌^◌, ◌<◌, ◌≤◌, Bool, true, false, eqb, length, refl, sym, ap, subst, ◌∙◌, arith, inl, inr}
use Rattle.std.specs.Prelude.{count_ones}
use Rattle.std.specs.Int.{bit_at}
use Rattle.std.proofs.lemmas.Bool.{cases_lt}
use Rattle.std.proofs.lemmas.Bool.Decides.{nat_tests}
use Rattle.std.proofs.lemmas.Nat.{mod-pow-add, pow_pos, ones_cat, ones_le_self, zero_from_ones}
use Rattle.std.proofs.lemmas.Nat.Bits.{bit_at-lt, bit_at-suc}
use Rattle.std.proofs.Math.Pow.{shr_lt, shr-shr}
use Rattle.std.proofs.Math.Nat.{mod-lt, mod-eq_of_lt}
use Rattle.iso_parts.specs.Bitmap.{in_words}
use Rattle.iso_parts.specs.Numbers.{numbers, numbers_in}
use Rattle.iso_parts.proofs.NumberLaws.{one_more, no_more, no_numbers}

-- a digit has as many ones as it counts
ones_digit : (d : ℕ) → d < 2 → count_ones d ≡ d
ones_digit zero lt = omega (arith, ones_le_self 0)
ones_digit (suc zero) lt =
    elim (cases_lt 0 (count_ones 1)) [
      | inl some ↦ omega (arith, some, ones_le_self 1)
      | inr none ↦ let never : 1 ≡ 0 = zero_from_ones 1 (omega (arith, none)) in absurd (omega (arith, never))
    ]
ones_digit (suc (suc d)) lt = absurd (omega (arith, lt))

-- the ones of one more bit
ones_more : (w k : ℕ) → count_ones (w % 2 ^ suc k) ≡ bit_at w k + count_ones (w % 2 ^ k)
ones_more w k =
    let split : w % 2 ^ (1 + k) ≡ bit_at w k * 2 ^ k + w % 2 ^ k = mod-pow-add w 1 k in
    let next : suc k ≡ 1 + k = omega arith in
    ap (λ (n : ℕ). count_ones (w % 2 ^ n)) next ∙ ap (λ (n : ℕ). count_ones n) split ∙ ones_cat k (bit_at w k) (w % 2 ^ k) (mod-lt w (pow_pos k)) ∙ ap (λ (n : ℕ). n + count_ones (w % 2 ^ k)) (ones_digit (bit_at w k) (bit_at-lt w k))

one_counts : (t : Bool) (set : ℕ → Bool) (count n d : ℕ) → set n ≡ t → eqb d 1 ≡ t → d < 2 → length (numbers set (suc count) n) ≡ d + length (numbers set count (n + 1))
one_counts true set count n d here is small = let one : d ≡ 1 = grind (arith, nat_tests) in ap length (one_more set count n here) ∙ omega (arith, one)
one_counts false set count n d here is small = let none : d ≡ 0 = grind (arith, nat_tests) in ap length (no_more set count n here) ∙ omega (arith, none)

-- the numbers from n up to the one of a word's last bit, and those behind it
word_counts : (set : ℕ → Bool) (w k rest n : ℕ) → ((i : ℕ) → i < k → set (n + k - suc i) ≡ eqb (bit_at w i) 1) → length (numbers set (k + rest) n) ≡ count_ones (w % 2 ^ k) + length (numbers set rest (n + k))
word_counts set w zero rest n bits =
    let end : n + 0 ≡ n = omega arith in
    let none : w % 2 ^ 0 ≡ 0 = omega arith in
    let whole : 0 + rest ≡ rest = omega arith in
    omega (arith, ones_le_self (w % 2 ^ 0), none, ap (λ (m : ℕ). length (numbers set rest m)) end, ap (λ (m : ℕ). length (numbers set m n)) whole)
word_counts set w (suc k) rest n bits =
    let first : n + suc k - suc k ≡ n = omega arith in
    let here : set n ≡ eqb (bit_at w k) 1 = sym (ap set first) ∙ bits k (omega arith) in
    let one = one_counts (eqb (bit_at w k) 1) set (k + rest) n (bit_at w k) here refl (bit_at-lt w k) in
    let others = word_counts set w k rest (n + 1) (λ i lt. let same : n + 1 + k - suc i ≡ n + suc k - suc i = omega arith in ap set same ∙ bits i (omega (arith, lt))) in
    let end : n + 1 + k ≡ n + suc k = omega arith in
    let more : suc k + rest ≡ suc (k + rest) = omega arith in
    ap (λ (m : ℕ). length (numbers set m n)) more ∙ one ∙ ap (λ (m : ℕ). bit_at w k + m) others ∙ omega (arith, ones_more w k, ap (λ (m : ℕ). length (numbers set rest m)) end)

first_bits : (w v i : ℕ) → i < 63 → in_words w v (2 + 63 - suc i) ≡ eqb (bit_at w i) 1
first_bits w v i lt = let place : 64 - (2 + 63 - suc i) ≡ i = omega arith in let low : 2 + 63 - suc i ≤ 64 = omega arith in grind (arith, nat_tests)

second_bits : (w v i : ℕ) → i < 64 → in_words w v (65 + 64 - suc i) ≡ eqb (bit_at v i) 1
second_bits w v i lt = let place : 128 - (65 + 64 - suc i) ≡ i = omega arith in let low : 64 < 65 + 64 - suc i = omega arith in let high : 65 + 64 - suc i ≤ 128 = omega arith in grind (arith, nat_tests)

pub count_members : (w v : ℕ) → w < 2 ^ 63 → v < 2 ^ 63 → count_ones w + count_ones v ≡ length (numbers_in w v)
count_members w v small low =
    let set = in_words w v in
    let first = word_counts set w 63 64 2 (first_bits w v) in
    let second = word_counts set v 64 0 65 (second_bits w v) in
    let whole : w % 2 ^ 63 ≡ w = mod-eq_of_lt small in
    let all : v % 2 ^ 64 ≡ v = mod-eq_of_lt (omega (arith, low)) in
    let none = ap length (no_numbers set 129) in
    omega (arith, first, second, ap (λ (n : ℕ). count_ones n) whole, ap (λ (n : ℕ). count_ones n) all, none)

-- ---- the numbers below one

-- a bit of a word that is shifted
shifted_bit : (w s i : ℕ) → bit_at (w / 2 ^ s) i ≡ bit_at w (s + i)
shifted_bit w s i = ap (λ (n : ℕ). n % 2) (shr-shr w s i)

shifted_small : (w s k : ℕ) → w < 2 ^ (s + k) → w / 2 ^ s < 2 ^ k
shifted_small w s k small = shr_lt k s (let size : s + k ≡ k + s = omega arith in subst (λ (m : ℕ). w < 2 ^ m) size small)

before_bits : (w v n i : ℕ) → 2 ≤ n → n ≤ 64 → i < n - 2 → in_words w v (2 + (n - 2) - suc i) ≡ eqb (bit_at (w / 2 ^ (64 - n) / 2) i) 1
before_bits w v n i low high lt =
    let at : 2 + (n - 2) - suc i ≤ 64 = omega arith in
    let place : 64 - (2 + (n - 2) - suc i) ≡ 64 - n + suc i = omega arith in
    let bit : bit_at (w / 2 ^ (64 - n) / 2) i ≡ bit_at w (64 - n + suc i) = sym (bit_at-suc (w / 2 ^ (64 - n)) i) ∙ shifted_bit w (64 - n) (suc i) in
    grind (arith, nat_tests)

behind_bits : (w v n i : ℕ) → 65 ≤ n → n ≤ 128 → i < n - 65 → in_words w v (65 + (n - 65) - suc i) ≡ eqb (bit_at (v / 2 ^ (128 - n) / 2) i) 1
behind_bits w v n i low high lt =
    let at : 65 + (n - 65) - suc i ≤ 128 = omega arith in
    let above : 64 < 65 + (n - 65) - suc i = omega arith in
    let place : 128 - (65 + (n - 65) - suc i) ≡ 128 - n + suc i = omega arith in
    let bit : bit_at (v / 2 ^ (128 - n) / 2) i ≡ bit_at v (128 - n + suc i) = sym (bit_at-suc (v / 2 ^ (128 - n)) i) ∙ shifted_bit v (128 - n) (suc i) in
    grind (arith, nat_tests)

pub count_before : (w v n : ℕ) → 2 ≤ n → n ≤ 64 → w < 2 ^ 63 → count_ones (w / 2 ^ (64 - n) / 2) ≡ length (numbers (in_words w v) (n - 2) 2)
count_before w v n low high small =
    let set = in_words w v in
    let x = w / 2 ^ (64 - n) / 2 in
    let first = word_counts set x (n - 2) 0 2 (λ i lt. before_bits w v n i low high lt) in
    let two : w / 2 ^ (64 - n) / 2 ≡ w / 2 ^ (65 - n) = let next : 65 - n ≡ 64 - n + 1 = omega arith in shr-shr w (64 - n) 1 ∙ ap (λ (m : ℕ). w / 2 ^ m) (sym next) in
    let size : 63 ≡ 65 - n + (n - 2) = omega arith in
    let fits : x < 2 ^ (n - 2) = subst (λ (m : ℕ). m < 2 ^ (n - 2)) (sym two) (shifted_small w (65 - n) (n - 2) (subst (λ (m : ℕ). w < 2 ^ m) size small)) in
    let whole : x % 2 ^ (n - 2) ≡ x = mod-eq_of_lt fits in
    let none = ap length (no_numbers set (2 + (n - 2))) in
    let all : n - 2 + 0 ≡ n - 2 = omega arith in
    omega (arith, first, ap (λ (m : ℕ). count_ones m) whole, none, ap (λ (m : ℕ). length (numbers set m 2)) all)

pub count_behind : (w v n : ℕ) → 65 ≤ n → n ≤ 128 → w < 2 ^ 63 → v < 2 ^ 63 → count_ones w + count_ones (v / 2 ^ (128 - n) / 2) ≡ length (numbers (in_words w v) (n - 2) 2)
count_behind w v n low high small fits_v =
    let set = in_words w v in
    let x = v / 2 ^ (128 - n) / 2 in
    let first = word_counts set w 63 (n - 65) 2 (first_bits w v) in
    let whole : w % 2 ^ 63 ≡ w = mod-eq_of_lt small in
    let second = word_counts set x (n - 65) 0 65 (λ i lt. behind_bits w v n i low high lt) in
    let two : v / 2 ^ (128 - n) / 2 ≡ v / 2 ^ (129 - n) = let next : 129 - n ≡ 128 - n + 1 = omega arith in shr-shr v (128 - n) 1 ∙ ap (λ (m : ℕ). v / 2 ^ m) (sym next) in
    let size : 64 ≡ 129 - n + (n - 65) = omega arith in
    let big : v < 2 ^ 64 = omega (arith, fits_v) in
    let fits : x < 2 ^ (n - 65) = subst (λ (m : ℕ). m < 2 ^ (n - 65)) (sym two) (shifted_small v (129 - n) (n - 65) (subst (λ (m : ℕ). v < 2 ^ m) size big)) in
    let rest : x % 2 ^ (n - 65) ≡ x = mod-eq_of_lt fits in
    let none = ap length (no_numbers set (65 + (n - 65))) in
    let all : n - 65 + 0 ≡ n - 65 = omega arith in
    let size_2 : 63 + (n - 65) ≡ n - 2 = omega arith in
    omega (arith, first, second, ap (λ (m : ℕ). count_ones m) whole, ap (λ (m : ℕ). count_ones m) rest, none, ap (λ (m : ℕ). length (numbers set m 65)) all, ap (λ (m : ℕ). length (numbers set m 2)) size_2)
