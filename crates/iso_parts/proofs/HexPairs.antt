-- The two hexadecimal digits of a byte, as the table of all bytes tells them.
use Rattle.std.proofs.Common.{◌≡◌, ℕ, zero, suc, ◌+◌, ◌-◌, ◌*◌, ◌/◌, ◌%◌, ◌<◌, Bool, true, ◌&&◌, T, eqb, get_or, arith, inl, inr, eq-zero-or-pos, eqb→eq}
use lib.Ieee.Fits.{and_l, and_r}
use Rattle.hex.specs.Hex.{upper_digits}
use Rattle.iso_parts.specs.declared.encoding.TheConstants.{HEX_PAIRS}

-- the table tells those of each byte below that one
abbrev are_pairs : ℕ → Bool
are_pairs zero = true
are_pairs (suc p) = (eqb (get_or HEX_PAIRS (p * 2) 0) (get_or upper_digits (p / 16) 0) && eqb (get_or HEX_PAIRS (p * 2 + 1) 0) (get_or upper_digits (p % 16) 0)) && are_pairs p

below : (n p : ℕ) → T (are_pairs n) → p < n → (get_or HEX_PAIRS (p * 2) 0 ≡ get_or upper_digits (p / 16) 0) × (get_or HEX_PAIRS (p * 2 + 1) 0 ≡ get_or upper_digits (p % 16) 0)
below zero p t h = absurd (omega arith)
below (suc n) p t h =
    elim (eq-zero-or-pos (n - p)) [
      | inl z ↦ let e : p ≡ n = omega arith in let a = and_l _ (are_pairs n) t in rw e (eqb→eq _ _ (and_l _ _ a), eqb→eq _ _ (and_r _ _ a))
      | inr g ↦ below n p (and_r _ (are_pairs n) t) (omega arith)
    ]

pub HEX_PAIRS_at : (p : ℕ) → p < 256 → (get_or HEX_PAIRS (p * 2) 0 ≡ get_or upper_digits (p / 16) 0) × (get_or HEX_PAIRS (p * 2 + 1) 0 ≡ get_or upper_digits (p % 16) 0)
HEX_PAIRS_at p h = below 256 p tt h
