-- The greatest number of a set is at the lowest bit of its words.
use Rattle.std.proofs.Common.{◌≡◌, ◌≢◌, ℕ, ◌-◌, ◌<◌, ap, ◌∙◌, arith, inl, inr}
use Rattle.std.specs.Int.{bit_at, w64, trailing_zeros}
use Rattle.std.proofs.lemmas.Bool.{cases_lt}
use Rattle.std.proofs.lemmas.Bool.Decides.{nat_tests}
use Rattle.std.proofs.lemmas.Nat.Bits.{bit_at-trailing_zeros, bit_at-zero}
use Rattle.iso_parts.specs.declared.bitmap.Bitmap.{Bitmap}
use Rattle.iso_parts.specs.Bitmap.{IsHighest, contains}

pub highest_second : (s : Bitmap) → s.secondary ≢ 0 → IsHighest (contains s) (128 - trailing_zeros w64 s.secondary)
highest_second s other =
    let t = bit_at-trailing_zeros w64 s.secondary (omega arith) (omega (arith, s.not_65)) in
    let k = 128 - trailing_zeros w64 s.secondary in
    let same : 128 - k ≡ trailing_zeros w64 s.secondary = omega (arith, t.0) in
    let one : bit_at s.secondary (128 - k) ≡ 1 = ap (bit_at s.secondary) same ∙ t.1 in
    (inr (grind (arith, nat_tests, one, t.0)), λ i above at_most. let none : bit_at s.secondary (128 - i) ≡ 0 = t.2 (128 - i) (omega (arith, t.0)) in let large : 64 < i = omega (arith, t.0) in grind (arith, nat_tests))

pub highest_first : (s : Bitmap) → s.secondary ≡ 0 → s.primary ≢ 0 → IsHighest (contains s) (64 - trailing_zeros w64 s.primary)
highest_first s empty other =
    let t = bit_at-trailing_zeros w64 s.primary (omega arith) (omega (arith, s.not_1)) in
    let k = 64 - trailing_zeros w64 s.primary in
    let same : 64 - k ≡ trailing_zeros w64 s.primary = omega (arith, t.0) in
    let one : bit_at s.primary (64 - k) ≡ 1 = ap (bit_at s.primary) same ∙ t.1 in (
      inr (grind (arith, nat_tests, one, t.0)),
      λ i above at_most.
          elim (cases_lt 64 i) [
            | inl large ↦ let none : bit_at s.secondary (128 - i) ≡ 0 = ap (λ (n : ℕ). bit_at n (128 - i)) empty ∙ bit_at-zero (128 - i) in grind (arith, nat_tests)
            | inr small ↦ let none : bit_at s.primary (64 - i) ≡ 0 = t.2 (64 - i) (omega (arith, t.0)) in grind (arith, nat_tests)
          ],
    )
