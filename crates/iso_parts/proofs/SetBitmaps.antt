-- Each set has plain bitmaps, and only one spelling of them.
use Rattle.std.proofs.Common.{◌≡◌, ℕ, zero, suc, ◌+◌, ◌-◌, ◌*◌, ◌/◌, ◌^◌, ◌<◌, ◌≤◌, ◌⊎◌, inl, inr, Bool, true, false, cond, eqb, List, [], ◌∷◌, ◌++◌, take, drop, take-append-drop, refl, sym, ap, subst, ◌∙◌, arith}
use Rattle.std.specs.Int.{bit_at, w64, to_be_bytes, from_be_bytes}
use Rattle.std.proofs.lemmas.Bool.{cases_eq}
use Rattle.std.proofs.lemmas.Bool.Decides.{nat_tests}
use Rattle.std.proofs.lemmas.List.{take_at, drop_at}
use Rattle.std.proofs.lemmas.Nat.{be_bytes_8}
use Rattle.std.proofs.lemmas.Nat.Bits.{bit_at-lt, bit_at-suc, bit_at_lowest, same_from_bits_below}
use Rattle.hex.specs.Hex.{IsBytes}
use Rattle.iso_parts.specs.declared.bitmap.BitmapCoding.{BitmapCoding}
use Rattle.iso_parts.specs.declared.bitmap.BitmapCoding.TheVariants.{Raw}
use Rattle.iso_parts.specs.Bitmap.{Bits, HasAbove, primary_bits, secondary_bits, Bitmaps, in_coding, PlainBitmaps}
use Rattle.iso_parts.proofs.BitmapLaws.{bytes_take, bytes_drop}
use Rattle.iso_parts.proofs.BitsLemmas.{Bits-to_be_bytes}
use Rattle.iso_parts.proofs.PlainBitmaps.{plain_maps}
use Rattle.iso_parts.proofs.Words.{word_fits}

-- ---- the word of a set

-- the first n bits, the first of them the most significant
abbrev word_to : (ℕ → Bool) → ℕ → ℕ
word_to set zero = 0
word_to set (suc n) = 2 * word_to set n + cond (set (suc n)) 1 0

small_more : (t : Bool) (w p : ℕ) → w < p → 2 * w + cond t 1 0 < 2 * p
small_more true w p lt = omega arith
small_more false w p lt = omega arith

word_small : (set : ℕ → Bool) (n : ℕ) → word_to set n < 2 ^ n
word_small set zero = omega arith
word_small set (suc n) = omega (arith, small_more (set (suc n)) (word_to set n) (2 ^ n) (word_small set n))

last_bit : (t : Bool) (w : ℕ) → eqb (bit_at (2 * w + cond t 1 0) 0) 1 ≡ t
last_bit true w = let e : bit_at (2 * w + 1) 0 ≡ 1 = bit_at_lowest (2 * w + 1) ∙ omega arith in ap (λ (n : ℕ). eqb n 1) e
last_bit false w = let e : bit_at (2 * w + 0) 0 ≡ 0 = bit_at_lowest (2 * w + 0) ∙ omega arith in ap (λ (n : ℕ). eqb n 1) e

half : (t : Bool) (w : ℕ) → (2 * w + cond t 1 0) / 2 ≡ w
half true w = omega arith
half false w = omega arith

bit_before : (t : Bool) (w i : ℕ) → bit_at (2 * w + cond t 1 0) (suc i) ≡ bit_at w i
bit_before t w i = bit_at-suc (2 * w + cond t 1 0) i ∙ ap (λ (n : ℕ). bit_at n i) (half t w)

-- its bits are those of the set
word_bits : (set : ℕ → Bool) (n k : ℕ) → 0 < k → k ≤ n → eqb (bit_at (word_to set n) (n - k)) 1 ≡ set k
word_bits set zero k low high = absurd (omega arith)
word_bits set (suc n) k low high =
    elim (cases_eq k (suc n)) [
      | inl e ↦
          let here : suc n - k ≡ 0 = omega arith in
          ap (λ (i : ℕ). eqb (bit_at (word_to set (suc n)) i) 1) here ∙ last_bit (set (suc n)) (word_to set n) ∙ ap set (sym e)
      | inr ne ↦
          let before : suc n - k ≡ suc (n - k) = omega arith in
          ap (λ (i : ℕ). eqb (bit_at (word_to set (suc n)) i) 1) before
          ∙ ap (λ (b : ℕ). eqb b 1) (bit_before (set (suc n)) (word_to set n) (n - k))
          ∙ word_bits set n k low (omega arith)
    ]

-- ---- its bytes

be_bytes-fit : (w : ℕ) → w < 2 ^ 64 → IsBytes (to_be_bytes w64 w)
be_bytes-fit w lt zero = omega arith
be_bytes-fit w lt (suc zero) = omega arith
be_bytes-fit w lt (suc (suc zero)) = omega arith
be_bytes-fit w lt (suc (suc (suc zero))) = omega arith
be_bytes-fit w lt (suc (suc (suc (suc zero)))) = omega arith
be_bytes-fit w lt (suc (suc (suc (suc (suc zero))))) = omega arith
be_bytes-fit w lt (suc (suc (suc (suc (suc (suc zero)))))) = omega arith
be_bytes-fit w lt (suc (suc (suc (suc (suc (suc (suc zero))))))) = omega arith
be_bytes-fit w lt (suc (suc (suc (suc (suc (suc (suc (suc i)))))))) = omega arith

-- eight bytes with the bits of the set
abbrev bytes_of : (ℕ → Bool) → List ℕ
bytes_of set = to_be_bytes w64 (word_to set 64)

fit_of : (set : ℕ → Bool) → IsBytes (bytes_of set)
fit_of set = be_bytes-fit (word_to set 64) (word_small set 64)

bits_of : (set : ℕ → Bool) → Bits set (bytes_of set)
bits_of set = Bits-to_be_bytes set (word_to set 64) (word_small set 64) (λ k low high. word_bits set 64 k low high)

fit_both : (a b : List ℕ) → IsBytes a → IsBytes b → IsBytes (a ++ b)
fit_both [] b fits others i = others i
fit_both (x ∷ a) b fits others zero = fits 0
fit_both (x ∷ a) b fits others (suc i) = fit_both a b (λ k. fits (suc k)) others i

-- ---- each set has plain bitmaps

-- a number above 64 is in the set, or none
above_or_none : (set : ℕ → Bool) (n : ℕ) → n ≤ 64 → HasAbove set ⊎ ((k : ℕ) → 64 < k → k ≤ 64 + n → set k ≡ false)
above_or_none set zero le = inr (λ k low high. absurd (omega arith))
above_or_none set (suc n) le = by_rest (above_or_none set n (omega arith))
  where
    by_last : (t : Bool) → set (65 + n) ≡ t → ((k : ℕ) → 64 < k → k ≤ 64 + n → set k ≡ false) → HasAbove set ⊎ ((k : ℕ) → 64 < k → k ≤ 64 + suc n → set k ≡ false)
    by_last true is none = inl (65 + n, omega arith, omega arith, is)
    by_last false is none = inr (λ k low high.
        elim (cases_eq k (65 + n)) [
          | inl e ↦ ap set e ∙ is
          | inr ne ↦ none k low (omega arith)
        ])

    by_rest : HasAbove set ⊎ ((k : ℕ) → 64 < k → k ≤ 64 + n → set k ≡ false) → HasAbove set ⊎ ((k : ℕ) → 64 < k → k ≤ 64 + suc n → set k ≡ false)
    by_rest (inl above) = inl above
    by_rest (inr none) = by_last (set (65 + n)) refl none

-- raw bitmaps are plain under each coding
plain_in : (c : BitmapCoding) (two : Bool) (set : ℕ → Bool) (raw : List ℕ) → IsBytes raw → Bitmaps Raw two set raw → (two ≡ true → HasAbove set) → (b : List ℕ) × PlainBitmaps c set b
plain_in c two set raw fits maps needed = (
  in_coding c raw,
  record { two = two; raw = raw; fits = fits; maps = maps; needed = needed; bytes = refl; spelled = plain_maps c two set raw fits maps },
)

plain_by : (c : BitmapCoding) (set : ℕ → Bool) → HasAbove set ⊎ ((k : ℕ) → 64 < k → k ≤ 128 → set k ≡ false) → (b : List ℕ) × PlainBitmaps c set b
plain_by c set (inl above) =
    let front : List ℕ = bytes_of (primary_bits true set) in
    let back : List ℕ = bytes_of (secondary_bits set) in
    plain_in c true set (front ++ back) (fit_both front back (fit_of (primary_bits true set)) (fit_of (secondary_bits set)))
    (record {
      primary = subst (λ (l : List ℕ). Bits (primary_bits true set) l) (sym (take_at front back 8 refl)) (bits_of (primary_bits true set));
      secondary = subst (λ (l : List ℕ). Bits (secondary_bits set) l) (sym (drop_at front back 8 refl)) (bits_of (secondary_bits set));
    })
    (λ is. above)
plain_by c set (inr none) = plain_in c false set (bytes_of (primary_bits false set)) (fit_of (primary_bits false set)) (record { primary = bits_of (primary_bits false set); none = none }) (λ is. absurd cc)

pub has_plain_maps : (c : BitmapCoding) (set : ℕ → Bool) → (b : List ℕ) × PlainBitmaps c set b
has_plain_maps c set = plain_by c set (above_or_none set 64 (omega arith))

-- ---- and no others

same_bit : (a b : ℕ) (t : Bool) → a < 2 → b < 2 → eqb a 1 ≡ t → eqb b 1 ≡ t → a ≡ b
same_bit a b t few less one other = grind (arith, nat_tests)

-- eight bytes have no other's bits
bits_once : (set : ℕ → Bool) (a b : List ℕ) → IsBytes a → IsBytes b → Bits set a → Bits set b → a ≡ b
bits_once set a b fits others one other =
    let w = from_be_bytes w64 a in
    let v = from_be_bytes w64 b in
    let bit : (i : ℕ) → i < 64 → bit_at w i ≡ bit_at v i = λ i lt.
    let k : 64 - (64 - i) ≡ i = omega arith in
    same_bit (bit_at w i) (bit_at v i) (set (64 - i)) (bit_at-lt w i) (bit_at-lt v i)
    (ap (λ (j : ℕ). eqb (bit_at w j) 1) (sym k) ∙ one.bit (64 - i) (omega arith) (omega arith))
    (ap (λ (j : ℕ). eqb (bit_at v j) 1) (sym k) ∙ other.bit (64 - i) (omega arith) (omega arith)) in
    let same : w ≡ v = same_from_bits_below 64 w v (word_fits a fits) (word_fits b others) bit in
    sym (be_bytes_8 a w one.eight fits refl) ∙ ap (to_be_bytes w64) same ∙ be_bytes_8 b v other.eight others refl

no_above : (set : ℕ → Bool) → HasAbove set → ((k : ℕ) → 64 < k → k ≤ 128 → set k ≡ false) → ⊥
no_above set above none = let e : true ≡ false = sym above.3 ∙ none above.0 above.1 above.2 in absurd cc

raw_once : (two more : Bool) (set : ℕ → Bool) (a b : List ℕ) → IsBytes a → IsBytes b → (two ≡ true → HasAbove set) → (more ≡ true → HasAbove set) → Bitmaps Raw two set a → Bitmaps Raw more set b → a ≡ b
raw_once true true set a b fits others above needed one other =
    sym (take-append-drop 8 a)
    ∙ ap (λ (l : List ℕ). l ++ drop 8 a) (bits_once (primary_bits true set) (take 8 a) (take 8 b) (bytes_take 8 a fits) (bytes_take 8 b others) one.primary other.primary)
    ∙ ap (λ (l : List ℕ). take 8 b ++ l) (bits_once (secondary_bits set) (drop 8 a) (drop 8 b) (bytes_drop 8 a fits) (bytes_drop 8 b others) one.secondary other.secondary)
    ∙ take-append-drop 8 b
raw_once true false set a b fits others above needed one other = absurd (no_above set (above refl) other.none)
raw_once false true set a b fits others above needed one other = absurd (no_above set (needed refl) one.none)
raw_once false false set a b fits others above needed one other = bits_once (primary_bits false set) a b fits others one.primary other.primary

pub plain_maps_once : (c : BitmapCoding) (set : ℕ → Bool) (a b : List ℕ) → PlainBitmaps c set a → PlainBitmaps c set b → a ≡ b
plain_maps_once c set a b one other =
    one.bytes ∙ ap (in_coding c) (raw_once one.two other.two set one.raw other.raw one.fits other.fits one.needed other.needed one.maps other.maps) ∙ sym other.bytes
