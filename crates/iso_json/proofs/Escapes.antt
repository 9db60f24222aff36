-- What stands between quotes for bytes: plain ones stand for themselves.
use Rattle.std.proofs.Common.{◌≡◌, ℕ, zero, suc, ◌/◌, ◌%◌, ◌<◌, Bool, true, false, List, [], ◌∷◌, ◌++◌, replicate, length, take, drop, ◌-◌, append_assoc, refl, ap, inl, inr, arith, if◌then◌else◌}
use Rattle.std.specs.Prelude.{◌&&◌, ◌||◌, ◌==◌, not, slice_index}
use Rattle.std.specs.List.{flat_map, list_all}
use Rattle.std.proofs.lemmas.Bool.{and_parts, cases_lt}
use Rattle.hex.specs.Hex.{IsBytes, encode_upper, encode_with, upper_digits}
use Rattle.iso_parts.specs.Class.{is_within}
use Rattle.iso_parts.specs.declared.class.CharClass.{CharClass}
use Rattle.std.proofs.lemmas.Grind.{flat_map-append}
use Rattle.iso_wire.specs.Describing.{clear_text, value_text}
use Rattle.iso_wire.specs.Masking.{shown_front, shown_end}
use Rattle.iso_json.specs.Written.{is_plain, escaped}

chosen : (within special : Bool) (b : ℕ) (x y : List ℕ) → within && not special ≡ true → (if special then x else if within then b ∷ [] else y) ≡ b ∷ []
chosen true false b x y h = refl
chosen true true b x y h = cc
chosen false special b x y h = cc

-- a plain character stands for itself
pub escaped_plain : (b : ℕ) → is_plain b ≡ true → escaped b ≡ b ∷ []
unfolding escaped
escaped_plain b h = chosen (is_within 32 126 b) (b == 34 || b == 92) b _ _ h

pub escaped_all : (bs : List ℕ) → list_all is_plain bs ≡ true → flat_map escaped bs ≡ bs
escaped_all [] h = refl
escaped_all (b ∷ bs) h =
    let parts = and_parts (is_plain b) (list_all is_plain bs) h in
    rw (escaped_plain b parts.0) (ap (λ (xs : List ℕ). b ∷ xs) (escaped_all bs parts.1))

-- ---- hexadecimal digits

abbrev first_plain : List ℕ → ℕ → Bool
first_plain t zero = true
first_plain t (suc n) = is_plain (slice_index t n) && first_plain t n

first_plain-at : (t : List ℕ) (n k : ℕ) → first_plain t n ≡ true → k < n → is_plain (slice_index t k) ≡ true
first_plain-at t zero k h lt = absurd (omega arith)
first_plain-at t (suc n) k h lt =
    let parts = and_parts (is_plain (slice_index t n)) (first_plain t n) h in
    elim (cases_lt k n) [
      | inl below ↦ first_plain-at t n k parts.1 below
      | inr top ↦
          let e : k ≡ n = omega arith in
          rw e parts.0
    ]

plain_digit : (k : ℕ) → k < 16 → is_plain (slice_index upper_digits k) ≡ true
plain_digit k lt = first_plain-at upper_digits 16 k refl lt

pub plain_hex : (bs : List ℕ) → IsBytes bs → list_all is_plain (encode_upper bs) ≡ true
unfolding encode_with
plain_hex [] h = refl
plain_hex (b ∷ bs) h =
    let fits : b < 256 = h 0 in
    let high : b / 16 < 16 = omega arith in
    let low : b % 16 < 16 = omega arith in
    rw (plain_digit (b / 16) high, plain_digit (b % 16) low) (plain_hex bs (λ k. h (suc k)))

pub escaped_hex : (bs : List ℕ) → IsBytes bs → flat_map escaped (encode_upper bs) ≡ encode_upper bs
escaped_hex bs h = escaped_all (encode_upper bs) (plain_hex bs h)

-- ---- stars

pub escaped_stars : (n : ℕ) → flat_map escaped (replicate n 42) ≡ replicate n 42
escaped_stars zero = refl
escaped_stars (suc n) = rw (escaped_plain 42 refl) (ap (λ (xs : List ℕ). 42 ∷ xs) (escaped_stars n))

-- ---- values

-- what stands for the shown pieces of a value and the stars between them
pub escaped_pieces : (old one two new front end : List ℕ) (n : ℕ) → one ≡ old ++ flat_map escaped front → two ≡ one ++ replicate n 42 → new ≡ two ++ flat_map escaped end
    → new ≡ old ++ flat_map escaped (front ++ (replicate n 42 ++ end))
escaped_pieces old one two new front end n p q r = rw (r, q, p) (simp (flat_map-append, escaped_stars, append_assoc))

pub value_pieces : (class : CharClass) (n : ℕ) (v front end : List ℕ) (hidden : ℕ) → front ≡ take (shown_front n (length v)) v → end ≡ drop (length v - shown_end n (length v)) v
    → hidden ≡ length v - shown_front n (length v) - shown_end n (length v) → clear_text class front ++ (replicate hidden 42 ++ clear_text class end) ≡ value_text class n v
value_pieces class n v front end hidden p q r = rw (p, q, r) refl
