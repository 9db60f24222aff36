-- Digits one by one.
use Rattle.std.proofs.Common.{◌≡◌, ℕ, ◌+◌, ◌*◌, ◌<◌, ◌≤◌, ◌==◌, Bool, true, false, if◌then◌else◌, arith, length-take, List, [], ◌∷◌, ◌++◌, length, get_or, drop, take, Option, Some, None, Result, Ok, Err, refl, sym, ap, ◌∙◌, append_assoc}
use Rattle.std.proofs.lemmas.List.{at_drop_more, take-append-le}
use Rattle.hex.specs.Hex.{hex_digit_value}
use Rattle.iso_input.specs.declared.fault.HexFault.{HexFault}
use Rattle.iso_input.specs.declared.fault.HexFault.TheVariants.{NotDigit}
use Rattle.iso_input.specs.declared.place.Place.{Place}
use Rattle.iso_input.specs.declared.place.Digit.{Digit}
use Rattle.iso_input.specs.Digits.{behind_byte, is_spacing, with_digit, digits_at, after, pairs, pairs_of}

-- ---- places

behind_if : (t : Bool) (p : Place) → Place
behind_if t p = if t then record { line = p.line + 1; column = 1 } else record { line = p.line; column = p.column + 1 }

line_if : (t : Bool) (p : Place) → (behind_if t p).line ≤ p.line + 1
unfolding behind_if
line_if true p = omega arith
line_if false p = omega arith

column_if : (t : Bool) (p : Place) → (behind_if t p).column ≤ p.column + 1
unfolding behind_if
column_if true p = omega arith
column_if false p = omega arith

pub behind_line : (p : Place) (b : ℕ) → (behind_byte p b).line ≤ p.line + 1
unfolding behind_if
behind_line p b = line_if (b == 10) p

pub behind_column : (p : Place) (b : ℕ) → (behind_byte p b).column ≤ p.column + 1
unfolding behind_if
behind_column p b = column_if (b == 10) p

-- ---- bytes behind others

pub after_after : (a b : List ℕ) (r : Result (List ℕ) HexFault) → after a (after b r) ≡ after (a ++ b) r
after_after a b (Ok c) = ap (λ (x : List ℕ). Ok x) (sym (append_assoc a b c))
after_after a b (Err e) = refl

pub after_fault : (a : List ℕ) (r : Result (List ℕ) HexFault) (e : HexFault) → after a r ≡ Err e → r ≡ Err e
after_fault a (Ok c) e h = cc
after_fault a (Err x) e h = h

-- what is in front stays in front
pub kept_append : (a b c : List ℕ) → take (length a) b ≡ a → take (length a) (b ++ c) ≡ a
kept_append a b c h = let n : length a ≤ length b = omega (arith, length-take (length a) b, ap length h) in rw take-append-le h

-- ---- a first digit that waits for its second

-- the digits behind one that waits, if one does
abbrev pub with_half : Option Digit → Result (List Digit) HexFault → Result (List Digit) HexFault
with_half None r = r
with_half (Some d) r = with_digit d r

-- the bytes that the digits from one on that waits write
abbrev pub pairs_from : Option Digit → Result (List Digit) HexFault → Result (List ℕ) HexFault
pairs_from half r = pairs_of (with_half half r)

pub second : (out : List ℕ) (high low : Digit) (r : Result (List Digit) HexFault) → after out (pairs_from (Some high) (with_digit low r)) ≡ after (out ++ (16 * high.value + low.value) ∷ []) (pairs_from None r)
second out high low (Ok ds) = after_after out ((16 * high.value + low.value) ∷ []) (pairs ds)
second out high low (Err e) = refl

-- ---- a text, byte by byte

pub spacing_step : (p : Place) (b : ℕ) (bs : List ℕ) → is_spacing b ≡ true → digits_at p (b ∷ bs) ≡ digits_at (behind_byte p b) bs
spacing_step p b bs h = rw h refl

pub digit_step : (p : Place) (b v : ℕ) (bs : List ℕ) → is_spacing b ≡ false → hex_digit_value b ≡ Some v → digits_at p (b ∷ bs) ≡ with_digit (record { value = v; place = p }) (digits_at (behind_byte p b) bs)
digit_step p b v bs h d = rw (h, d) refl

pub fault_step : (p : Place) (b : ℕ) (bs : List ℕ) → is_spacing b ≡ false → hex_digit_value b ≡ None → digits_at p (b ∷ bs) ≡ Err (NotDigit p.line p.column b)
fault_step p b bs h d = rw (h, d) refl

-- the next byte is spacing
pub over_spacing : (p : Place) (text : List ℕ) (i : ℕ) (half : Option Digit) → i < length text → is_spacing (get_or text i 0) ≡ true → pairs_from half (digits_at p (drop i text)) ≡ pairs_from half (digits_at (behind_byte p (get_or text i 0)) (drop (i + 1) text))
over_spacing p text i half h s = ap (λ (r : Result (List Digit) HexFault). pairs_from half r) (at_drop_more (digits_at p) text i 0 h ∙ spacing_step p (get_or text i 0) (drop (i + 1) text) s)

-- the next byte is a digit
pub over_digit : (p : Place) (text : List ℕ) (i v : ℕ) (half : Option Digit) → i < length text → is_spacing (get_or text i 0) ≡ false → hex_digit_value (get_or text i 0) ≡ Some v
    → pairs_from half (digits_at p (drop i text)) ≡ pairs_from half (with_digit (record { value = v; place = p }) (digits_at (behind_byte p (get_or text i 0)) (drop (i + 1) text)))
over_digit p text i v half h s d = ap (λ (r : Result (List Digit) HexFault). pairs_from half r) (at_drop_more (digits_at p) text i 0 h ∙ digit_step p (get_or text i 0) v (drop (i + 1) text) s d)

pub fault_from : (half : Option Digit) (e : HexFault) → pairs_from half (Err e) ≡ Err e
fault_from None e = refl
fault_from (Some d) e = refl
