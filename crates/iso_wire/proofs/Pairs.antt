-- The digits of numbers below 100, and numbers that are written two and four digits at a time.
use Rattle.std.proofs.Common.{◌≡◌, ℕ, zero, suc, ◌+◌, ◌-◌, ◌*◌, ◌/◌, ◌%◌, ◌<◌, Bool, true, ◌&&◌, T, eqb, List, [], ◌∷◌, ◌++◌, get_or, take, drop, refl, ap, sym, ◌∙◌, arith, inl, inr, eq-zero-or-pos, eqb→eq, append_assoc}
use Rattle.std.proofs.lemmas.List.{drop-take, drop-drop, take-append-drop}
use lib.Ieee.Fits.{and_l, and_r}
use Rattle.iso_wire.specs.Decimal.{decimal}
use Rattle.iso_wire.specs.declared.decimal.TheConstants.{PAIRS}

-- the two digits of a number below 100
abbrev pub pair : ℕ → List ℕ
pair p = (48 + p / 10) ∷ (48 + p % 10) ∷ []

-- the table tells those of each number below that one
abbrev are_pairs : ℕ → Bool
are_pairs zero = true
are_pairs (suc p) = (eqb (get_or PAIRS (p * 2) 0) (48 + p / 10) && eqb (get_or PAIRS (p * 2 + 1) 0) (48 + p % 10)) && are_pairs p

below : (n p : ℕ) → T (are_pairs n) → p < n → (get_or PAIRS (p * 2) 0 ≡ 48 + p / 10) × (get_or PAIRS (p * 2 + 1) 0 ≡ 48 + p % 10)
below zero p t h = absurd (omega arith)
below (suc n) p t h =
    elim (eq-zero-or-pos (n - p)) [
      | inl z ↦ let e : p ≡ n = omega arith in let a = and_l _ (are_pairs n) t in rw e (eqb→eq _ _ (and_l _ _ a), eqb→eq _ _ (and_r _ _ a))
      | inr g ↦ below n p (and_r _ (are_pairs n) t) (omega arith)
    ]

pub PAIRS_at : (p : ℕ) → p < 100 → (get_or PAIRS (p * 2) 0 ≡ 48 + p / 10) × (get_or PAIRS (p * 2 + 1) 0 ≡ 48 + p % 10)
PAIRS_at p h = below 100 p tt h

-- two digits more
pub decimal-two : (n v : ℕ) → decimal (n + 2) v ≡ decimal n (v / 100) ++ pair (v % 100)
decimal-two n v =
    let a : v / 10 / 10 ≡ v / 100 = omega arith in
    let b : v / 10 % 10 ≡ v % 100 / 10 = omega arith in
    let c : v % 10 ≡ v % 100 % 10 = omega arith in
    let e : n + 2 ≡ suc (suc n) = omega arith in
    rw (e, append_assoc, a, b, ← c) refl

-- four digits more
pub decimal-four : (n v : ℕ) → decimal (n + 4) v ≡ decimal n (v / 10000) ++ (pair (v % 10000 / 100) ++ pair (v % 10000 % 100))
decimal-four n v =
    let a : v / 100 / 100 ≡ v / 10000 = omega arith in
    let b : v / 100 % 100 ≡ v % 10000 / 100 = omega arith in
    let c : v % 10000 % 100 ≡ v % 100 = omega arith in
    let e : n + 4 ≡ n + 2 + 2 = omega arith in
    rw (e, decimal-two (n + 2) v, decimal-two n (v / 100), append_assoc, a, b, c) refl

-- two pairs that are written side by side
pub two-pairs : (out one two : List ℕ) (a v w x y : ℕ)
    → drop a one ≡ v ∷ w ∷ drop (a + 2) out
    → take (a + 2) two ≡ take (a + 2) one
    → drop (a + 2) two ≡ x ∷ y ∷ drop (a + 2 + 2) one
    → drop a two ≡ v ∷ w ∷ x ∷ y ∷ drop (a + 4) out
two-pairs out one two a v w x y first same second =
    let front : take 2 (drop a two) ≡ v ∷ w ∷ [] =
    sym (drop-take a 2 two) ∙ ap (drop a) same ∙ drop-take a 2 one ∙ ap (take 2) first in
    let four : a + 2 + 2 ≡ a + 4 = omega arith in
    let rest : drop (a + 4) one ≡ drop (a + 4) out =
    sym (drop-drop 4 a one) ∙ ap (drop 4) first ∙ drop-drop 2 (a + 2) out ∙ ap (λ n. drop n out) four in
    let back : drop 2 (drop a two) ≡ x ∷ y ∷ drop (a + 4) out =
    drop-drop 2 a two ∙ second ∙ ap (λ n. x ∷ y ∷ drop n one) four ∙ ap (λ l. x ∷ y ∷ l) rest in
    sym (take-append-drop 2 (drop a two)) ∙ ap (λ l. l ++ drop 2 (drop a two)) front ∙ ap (λ l. v ∷ w ∷ l) back
