-- Words and their bits.
use Rattle.std.proofs.Common.{◌≡◌, ◌≢◌, ℕ, ◌+◌, ◌-◌, ◌^◌, ◌<◌, ◌≤◌, Bool, true, eqb, List, ◌++◌, length, take, drop, refl, sym, ap, subst, ◌∙◌, arith, inl, inr}
use Rattle.std.specs.Int.{bit_at, w64, to_be_bytes}
use Rattle.std.specs.Int.Bits.{bit_and}
use Rattle.std.proofs.lemmas.Nat.{and_le_l, from_be_bytes-to_be_bytes_8}
use Rattle.std.proofs.lemmas.Bool.Decides.{nat_tests}
use Rattle.std.specs.Int.{trailing_zeros}
use Rattle.std.proofs.lemmas.Bool.{cases_eq}
use Rattle.std.proofs.lemmas.Nat.Bits.{bit_at_above, bit_at-trailing_zeros}
use Rattle.std.proofs.lemmas.List.{take_at, drop_at, length-append}
use Rattle.std.proofs.lemmas.Slice.{take-put_mid}
use borrow.Rule.Slice.PartMut.{put_mid}
use Rattle.iso_parts.specs.declared.bitmap.Bitmap.{Bitmap}
use Rattle.iso_parts.specs.declared.bitmap.BitmapCoding.TheVariants.{Raw}
use Rattle.iso_parts.specs.Bitmap.{Bits, Two, HasAbove, contains, primary_bits, secondary_bits}

pub Bits-to_be_bytes : (set : ℕ → Bool) (w : ℕ) → w < 2 ^ 64 → ((k : ℕ) → 0 < k → k ≤ 64 → eqb (bit_at w (64 - k)) 1 ≡ set k) → Bits set (to_be_bytes w64 w)
Bits-to_be_bytes set w lt h = record { eight = refl; bit = λ k low high. ap (λ (n : ℕ). eqb (bit_at n (64 - k)) 1) (from_be_bytes-to_be_bytes_8 w lt) ∙ h k low high }

-- eight bytes in front, and eight behind
two_words : (a b rest : List ℕ) → length a ≡ 8 → length b ≡ 8 → take 16 (put_mid 8 8 (a ++ rest) b) ≡ a ++ b
two_words a b rest la lb = take-put_mid 8 8 (a ++ rest) b 16 (omega arith) (omega (arith, length-append a rest)) ∙ ap (λ (l : List ℕ). l ++ b) (take_at a rest 8 la)

pub Two-words : (set : ℕ → Bool) (a b rest : List ℕ) → Bits (primary_bits true set) a → Bits (secondary_bits set) b → Two Raw set (take 16 (put_mid 8 8 (a ++ rest) b))
Two-words set a b rest primary secondary =
    let whole = two_words a b rest primary.eight secondary.eight in
    let front : take 8 (take 16 (put_mid 8 8 (a ++ rest) b)) ≡ a = ap (take 8) whole ∙ take_at a b 8 primary.eight in
    let back : drop 8 (take 16 (put_mid 8 8 (a ++ rest) b)) ≡ b = ap (drop 8) whole ∙ drop_at a b 8 primary.eight in
    record {
      primary = subst (λ (l : List ℕ). Bits (primary_bits true set) l) (sym front) primary;
      secondary = subst (λ (l : List ℕ). Bits (secondary_bits set) l) (sym back) secondary;
    }

-- a second word that is not 0 has a bit
pub HasAbove-secondary : (s : Bitmap) → s.secondary ≢ 0 → HasAbove (contains s)
HasAbove-secondary s other =
    let t = bit_at-trailing_zeros w64 s.secondary (omega arith) (omega (arith, s.not_65)) in
    let k = 128 - trailing_zeros w64 s.secondary in
    let same : 128 - k ≡ trailing_zeros w64 s.secondary = omega (arith, t.0) in
    let one : bit_at s.secondary (128 - k) ≡ 1 = ap (bit_at s.secondary) same ∙ t.1 in
    (k, omega (arith, t.0), omega arith, grind (arith, nat_tests, one, t.0))

pub first_bits : (s : Bitmap) (w : ℕ) → bit_at w 63 ≡ 1 → ((i : ℕ) → i ≢ 63 → bit_at w i ≡ bit_at s.primary i) → (k : ℕ) → 0 < k → k ≤ 64 → eqb (bit_at w (64 - k)) 1 ≡ primary_bits true (contains s) k
first_bits s w top others k low high =
    elim (cases_eq k 1) [
      | inl e ↦ rw e (ap (λ (n : ℕ). eqb n 1) top)
      | inr ne ↦ let other = others (64 - k) (λ e. ne (omega arith)) in grind (arith, nat_tests)
    ]

pub second_bits : (s : Bitmap) (k : ℕ) → 0 < k → k ≤ 64 → eqb (bit_at s.secondary (64 - k)) 1 ≡ secondary_bits (contains s) k
second_bits s k low high = let same : 128 - (64 + k) ≡ 64 - k = omega arith in grind (arith, nat_tests)

-- neither a word nor a part of it has a bit above its width
pub none_above : (word mask i : ℕ) → word < 2 ^ 64 → 64 ≤ i → bit_at (bit_and word mask) i ≡ bit_at word i
none_above word mask i fits beyond = bit_at_above (bit_and word mask) 64 i (omega (arith, fits, and_le_l word mask)) beyond ∙ sym (bit_at_above word 64 i fits beyond)
