-- Two characters a byte, from a place on.
use Rattle.std.proofs.Common.{◌≡◌, ℕ, zero, suc, ◌+◌, ◌-◌, ◌*◌, ◌%◌, ◌≤◌, ◌<◌, List, [], ◌∷◌, length, drop, get_or, replicate, refl, ap, ◌∙◌, arith}
use Rattle.std.proofs.lemmas.List.{length-append, length-replicate, drop_more}
use Rattle.iso_parts.specs.declared.padding.Pad.{Pad}
use Rattle.iso_parts.specs.declared.padding.Pad.TheVariants as pads
use Rattle.iso_parts.specs.declared.spec.FieldSpec.{FieldSpec}
use Rattle.iso_parts.specs.Part.{with_pads, with_padding, with_filler, pairs}

-- two characters and what is behind them
pub pairs_from : (w : List ℕ) (at : ℕ) → at + 1 < length w → pairs (drop at w) ≡ (16 * (get_or w at 0 % 16) + get_or w (at + 1) 0 % 16) ∷ pairs (drop (at + 2) w)
pairs_from w at h =
    let one : drop at w ≡ get_or w at 0 ∷ drop (at + 1) w = drop_more w at 0 (omega arith) in
    let two : drop (at + 1) w ≡ get_or w (at + 1) 0 ∷ drop (at + 1 + 1) w = drop_more w (at + 1) 0 h in
    let next : at + 1 + 1 ≡ at + 2 = omega arith in
    ap pairs (one ∙ ap (λ (l : List ℕ). get_or w at 0 ∷ l) two)
    ∙ ap (λ (k : ℕ). (16 * (get_or w at 0 % 16) + get_or w (at + 1) 0 % 16) ∷ pairs (drop k w)) next

-- one character makes no byte
pub no_pairs_from : (w : List ℕ) (at : ℕ) → length w ≤ at + 1 → pairs (drop at w) ≡ []
no_pairs_from [] zero h = refl
no_pairs_from [] (suc at) h = refl
no_pairs_from (x ∷ []) zero h = refl
no_pairs_from (x ∷ y ∷ rest) zero h = absurd (omega arith)
no_pairs_from (x ∷ xs) (suc at) h = no_pairs_from xs at (omega arith)

length_with_pads : (p : Pad) (n max : ℕ) (v : List ℕ) → n + length v ≡ max → (p ≡ pads.None → n ≡ 0) → length (with_pads p n v) ≡ max
length_with_pads pads.None n max v whole none = let no : n ≡ 0 = none refl in omega arith
length_with_pads (pads.Left p) n max v whole none = omega (arith, length-append (replicate n p) v, length-replicate n p)
length_with_pads (pads.Right p) n max v whole none = omega (arith, length-append v (replicate n p), length-replicate n p)

-- a value is filled up to the row's maximum
pub length_padded : (s : FieldSpec) (v : List ℕ) → length v ≤ s.max → (s.pad ≡ pads.None → length v ≡ s.max) → length (with_padding s v) ≡ s.max
length_padded s v room exact = length_with_pads s.pad (s.max - length v) s.max v (omega arith) (λ none. let whole = exact none in omega arith)

behind_filler : (w : List ℕ) → 0 < length w → pairs (48 ∷ w) ≡ (get_or w 0 0 % 16) ∷ pairs (drop 1 w)
behind_filler [] h = absurd (omega arith)
behind_filler (x ∷ xs) h = let low : 0 + x % 16 ≡ x % 16 = omega arith in ap (λ (n : ℕ). n ∷ pairs xs) low

-- an odd count of characters has the filler before its first one
pub pairs_behind_filler : (w : List ℕ) → length w % 2 ≡ 1 → pairs (with_filler 48 w) ≡ (get_or w 0 0 % 16) ∷ pairs (drop 1 w)
pairs_behind_filler w odd = rw odd (behind_filler w (omega arith))
