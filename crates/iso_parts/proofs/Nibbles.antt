-- Packed characters, by their places.
use Rattle.std.proofs.Common.{◌≡◌, ◌≢◌, ℕ, zero, suc, ◌+◌, ◌-◌, ◌*◌, ◌/◌, ◌%◌, ◌≤◌, ◌<◌, Bool, true, cond, ◌&&◌, List, [], ◌∷◌, length, take, drop, reverse, get_or, refl, sym, ap, ◌∙◌, arith, eq-eqb, ne_eqb}
use Rattle.std.specs.List.{list_all}
use Rattle.std.proofs.lemmas.List.{length-drop, get_or-drop, drop_more, take_more, reverse-append, reverse-reverse, take_all}
use Rattle.iso_parts.specs.Class.{is_digit}
use Rattle.iso_parts.specs.Part.{characters}
use Rattle.iso_parts.specs.Reading.{without_front}

-- ---- the two characters of a byte

pub high_nibble : (b : List ℕ) (at : ℕ) → at % 2 ≡ 0 → at < 2 * length b → get_or (characters b) at 0 ≡ 48 + get_or b (at / 2) 0 / 16
high_nibble b at even h = high b (at / 2) at (omega arith) (omega arith)
  where
    high : (b : List ℕ) (k at : ℕ) → at ≡ 2 * k → k < length b → get_or (characters b) at 0 ≡ 48 + get_or b k 0 / 16
    high [] k at e h = absurd (omega arith)
    high (x ∷ xs) zero zero e h = refl
    high (x ∷ xs) zero (suc at) e h = absurd (omega arith)
    high (x ∷ xs) (suc k) zero e h = absurd (omega arith)
    high (x ∷ xs) (suc k) (suc zero) e h = absurd (omega arith)
    high (x ∷ xs) (suc k) (suc (suc at)) e h = high xs k at (omega arith) (omega arith)

pub low_nibble : (b : List ℕ) (at : ℕ) → at % 2 ≢ 0 → at < 2 * length b → get_or (characters b) at 0 ≡ 48 + get_or b (at / 2) 0 % 16
low_nibble b at odd h = low b (at / 2) at (omega arith) (omega arith)
  where
    low : (b : List ℕ) (k at : ℕ) → at ≡ 2 * k + 1 → k < length b → get_or (characters b) at 0 ≡ 48 + get_or b k 0 % 16
    low [] k at e h = absurd (omega arith)
    low (x ∷ xs) zero zero e h = absurd (omega arith)
    low (x ∷ xs) zero (suc zero) e h = refl
    low (x ∷ xs) zero (suc (suc at)) e h = absurd (omega arith)
    low (x ∷ xs) (suc k) zero e h = absurd (omega arith)
    low (x ∷ xs) (suc k) (suc zero) e h = absurd (omega arith)
    low (x ∷ xs) (suc k) (suc (suc at)) e h = low xs k at (omega arith) (omega arith)

-- ---- pads at the front

pub start_none : (p : ℕ) (w : List ℕ) (at : ℕ) → length w ≤ at → without_front p (drop at w) ≡ drop at w
start_none p [] zero h = refl
start_none p [] (suc at) h = refl
start_none p (x ∷ xs) zero h = absurd (omega arith)
start_none p (x ∷ xs) (suc at) h = start_none p xs at (omega arith)

-- ---- pads at the end

pub whole_rest : (w : List ℕ) (from to : ℕ) → length w ≡ to → take (to - from) (drop from w) ≡ drop from w
whole_rest w from to e = take_all (to - from) (drop from w) (omega (arith, length-drop from w))

last_first : (w : List ℕ) (from to : ℕ) → from < to → to ≤ length w → reverse (take (to - from) (drop from w)) ≡ get_or w (to - 1) 0 ∷ reverse (take (to - 1 - from) (drop from w))
last_first w from to some within =
    let n = to - 1 - from in
    let more : to - from ≡ n + 1 = omega arith in
    let place : from + n ≡ to - 1 = omega arith in
    let inside : n < length (drop from w) = omega (arith, length-drop from w) in
    ap (λ (k : ℕ). reverse (take k (drop from w))) more
    ∙ ap reverse (take_more (drop from w) n 0 inside)
    ∙ reverse-append (take n (drop from w)) (get_or (drop from w) n 0 ∷ [])
    ∙ ap (λ (x : ℕ). x ∷ reverse (take n (drop from w))) (get_or-drop from w n 0 ∙ ap (λ (k : ℕ). get_or w k 0) place)

pub end_step : (p : ℕ) (w : List ℕ) (from to : ℕ) → from < to → to ≤ length w → get_or w (to - 1) 0 ≡ p
    → without_front p (reverse (take (to - from) (drop from w))) ≡ without_front p (reverse (take (to - 1 - from) (drop from w)))
end_step p w from to some within same =
    let before : List ℕ = reverse (take (to - 1 - from) (drop from w)) in
    ap (without_front p) (last_first w from to some within)
    ∙ ap (λ (t : Bool). cond t (without_front p before) (get_or w (to - 1) 0 ∷ before)) (eq-eqb (get_or w (to - 1) 0) p same)

pub end_stop : (p : ℕ) (w : List ℕ) (from to : ℕ) → from < to → to ≤ length w → get_or w (to - 1) 0 ≢ p
    → reverse (without_front p (reverse (take (to - from) (drop from w)))) ≡ take (to - from) (drop from w)
end_stop p w from to some within other =
    let before : List ℕ = reverse (take (to - 1 - from) (drop from w)) in
    let kept : without_front p (reverse (take (to - from) (drop from w))) ≡ reverse (take (to - from) (drop from w)) =
    ap (without_front p) (last_first w from to some within)
    ∙ ap (λ (t : Bool). cond t (without_front p before) (get_or w (to - 1) 0 ∷ before)) (ne_eqb (get_or w (to - 1) 0) p other)
    ∙ sym (last_first w from to some within) in
    ap reverse kept ∙ reverse-reverse (take (to - from) (drop from w))

-- ---- digits from one place to another

pub digits_step : (w : List ℕ) (at to : ℕ) → at < to → to ≤ length w
    → list_all is_digit (take (to - at) (drop at w)) ≡ (is_digit (get_or w at 0) && list_all is_digit (take (to - (at + 1)) (drop (at + 1) w)))
digits_step w at to some within =
    let n = to - (at + 1) in
    let more : to - at ≡ suc n = omega arith in
    ap (λ (k : ℕ). list_all is_digit (take k (drop at w))) more ∙ ap (λ (l : List ℕ). list_all is_digit (take (suc n) l)) (drop_more w at 0 (omega arith))

pub digits_none : (w : List ℕ) (at to : ℕ) → to ≤ at → list_all is_digit (take (to - at) (drop at w)) ≡ true
digits_none w at to none = let no : to - at ≡ 0 = omega arith in ap (λ (k : ℕ). list_all is_digit (take k (drop at w))) no
