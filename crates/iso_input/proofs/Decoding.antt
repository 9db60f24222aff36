-- Digits in any spacing, and what they decode to without it.
use Rattle.std.proofs.Common.{◌≡◌, ℕ, ◌+◌, ◌*◌, ◌%◌, ◌==◌, Bool, true, false, not, cond, arith, List, [], ◌∷◌, length, Option, Some, None, Result, Ok, Err, refl, sym, ap, ◌∙◌, inl, inr}
use Rattle.std.specs.Prelude.{◌&&◌}
use Rattle.std.specs.Result.{result_ok}
use Rattle.std.specs.List.{AllPass, prefix_len}
use Rattle.std.proofs.lemmas.Bool.{cases_eq}
use Rattle.std.proofs.lemmas.Bool.Decides.{nat_tests}
use Rattle.std.proofs.lemmas.List.Elements.{All-head, All-tail, All-drop}
use Rattle.hex.specs.Hex.{hex_digit_value, is_hex_digit, digit_or_error, decode_pairs, decode_of, encode_lower, encode_upper, ◌>>=◌}
use Rattle.hex.specs.declared.error.FromHexError.{FromHexError}
use Rattle.hex.proofs.HexLemmas.{decode_of-odd, decode_of-even, decode_of-ok, decode_of-encode_lower, decode_of-encode_upper}
use Rattle.iso_input.specs.declared.fault.HexFault.{HexFault}
use Rattle.iso_input.specs.declared.place.Place.{Place}
use Rattle.iso_input.specs.declared.place.Digit.{Digit}
use Rattle.iso_input.specs.Digits.{behind_byte, is_spacing, with_digit, digits_at, after, pairs, bytes_at}
use Rattle.iso_input.specs.Dump.{begins, begins_gap, behind, is_blank, is_zero, is_white, is_margin, begins_dump, is_dump, dump_bytes, hex_bytes}
use Rattle.iso_input.specs.Decoding.{tight, IsDecoded, ComesBack}
use Rattle.iso_input.proofs.Reading.{pairs_from, fault_from, spacing_step, digit_step, fault_step}

-- ---- bytes or none

-- the byte of two digits in front of bytes, where all are there
abbrev byte_before : Option ℕ → Option ℕ → Option (List ℕ) → Option (List ℕ)
byte_before None low bytes = None
byte_before (Some high) None bytes = None
byte_before (Some high) (Some low) None = None
byte_before (Some high) (Some low) (Some bytes) = Some ((16 * high + low) ∷ bytes)

none_behind : (high low : Option ℕ) → byte_before high low None ≡ None
none_behind None low = refl
none_behind (Some high) None = refl
none_behind (Some high) (Some low) = refl

-- the bytes of pairs of digits
abbrev opt_pairs : List ℕ → Option (List ℕ)
opt_pairs [] = Some []
opt_pairs (a ∷ []) = None
opt_pairs (a ∷ b ∷ rest) = byte_before (hex_digit_value a) (hex_digit_value b) (opt_pairs rest)

-- the same behind a first digit
abbrev opt_behind : ℕ → List ℕ → Option (List ℕ)
opt_behind high [] = None
opt_behind high (b ∷ rest) = byte_before (Some high) (hex_digit_value b) (opt_pairs rest)

abbrev opt_from : Option Digit → List ℕ → Option (List ℕ)
opt_from None s = opt_pairs s
opt_from (Some d) s = opt_behind d.value s

first_digit : (b v : ℕ) (s : List ℕ) → hex_digit_value b ≡ Some v → opt_pairs (b ∷ s) ≡ opt_behind v s
first_digit b v [] h = refl
first_digit b v (c ∷ s) h = ap (λ x. byte_before x (hex_digit_value c) (opt_pairs s)) h

first_bad : (b : ℕ) (s : List ℕ) → hex_digit_value b ≡ None → opt_pairs (b ∷ s) ≡ None
first_bad b [] h = refl
first_bad b (c ∷ s) h = ap (λ x. byte_before x (hex_digit_value c) (opt_pairs s)) h

-- ---- what decodes

pair_ok : (a b i : ℕ) (va vb : Option ℕ) (r : Result (List ℕ) FromHexError)
    → result_ok ((digit_or_error a i va >>= (λ high. digit_or_error b (i + 1) vb >>= (λ low. Ok (high * 16 + low)))) >>= (λ byte. r >>= (λ bytes. Ok (byte ∷ bytes)))) ≡ byte_before va vb (result_ok r)
pair_ok a b i None vb r = refl
pair_ok a b i (Some high) None r = refl
pair_ok a b i (Some high) (Some low) (Err e) = refl
pair_ok a b i (Some high) (Some low) (Ok bytes) = let same : high * 16 + low ≡ 16 * high + low = omega arith in ap (λ (x : ℕ). Some (x ∷ bytes)) same

pairs_ok : (i : ℕ) (s : List ℕ) → result_ok (decode_pairs i s) ≡ opt_pairs s
unfolding decode_pairs
pairs_ok i [] = refl
pairs_ok i (a ∷ []) = refl
pairs_ok i (a ∷ b ∷ rest) =
    pair_ok a b i (hex_digit_value a) (hex_digit_value b) (decode_pairs (i + 2) rest) ∙ ap (byte_before (hex_digit_value a) (hex_digit_value b)) (pairs_ok (i + 2) rest)

odd_none : (s : List ℕ) → length s % 2 ≡ 1 → opt_pairs s ≡ None
odd_none [] h = absurd (omega arith)
odd_none (a ∷ []) h = refl
odd_none (a ∷ b ∷ rest) h = ap (byte_before (hex_digit_value a) (hex_digit_value b)) (odd_none rest (omega arith)) ∙ none_behind (hex_digit_value a) (hex_digit_value b)

decode_ok : (s : List ℕ) → result_ok (decode_of s) ≡ opt_pairs s
decode_ok s =
    elim (cases_eq (length s % 2) 1) [
      | inl odd ↦ ap (λ (r : Result (List ℕ) FromHexError). result_ok r) (decode_of-odd s odd) ∙ sym (odd_none s odd)
      | inr even ↦ let e : length s % 2 ≡ 0 = omega arith in ap (λ (r : Result (List ℕ) FromHexError). result_ok r) (decode_of-even s e) ∙ pairs_ok 0 s
    ]

-- ---- what is read

tight_skips : (b : ℕ) (bs : List ℕ) → is_spacing b ≡ true → tight (b ∷ bs) ≡ tight bs
tight_skips b bs h = ap (λ t. cond (not t) (b ∷ tight bs) (tight bs)) h

tight_keeps : (b : ℕ) (bs : List ℕ) → is_spacing b ≡ false → tight (b ∷ bs) ≡ b ∷ tight bs
tight_keeps b bs h = ap (λ t. cond (not t) (b ∷ tight bs) (tight bs)) h

byte_ok : (high low : ℕ) (r : Result (List ℕ) HexFault) → result_ok (after ((16 * high + low) ∷ []) r) ≡ byte_before (Some high) (Some low) (result_ok r)
byte_ok high low (Ok bytes) = refl
byte_ok high low (Err e) = refl

second_ok : (high low : Digit) (r : Result (List Digit) HexFault) → result_ok (pairs_from (Some high) (with_digit low r)) ≡ byte_before (Some high.value) (Some low.value) (result_ok (pairs_from None r))
second_ok high low (Ok ds) = byte_ok high.value low.value (pairs ds)
second_ok high low (Err e) = refl

-- what the bytes from one on are read as, whatever stands before
abbrev Same : List ℕ → Type 0
Same bs = (half : Option Digit) (p : Place) → result_ok (pairs_from half (digits_at p bs)) ≡ opt_from half (tight bs)

bad_from : (half : Option Digit) (b : ℕ) (s : List ℕ) → hex_digit_value b ≡ None → opt_from half (b ∷ s) ≡ None
bad_from None b s h = first_bad b s h
bad_from (Some d) b s h = ap (λ x. byte_before (Some d.value) x (opt_pairs s)) h

by_digit : (half : Option Digit) (p : Place) (b : ℕ) (bs : List ℕ) (v : Option ℕ) → hex_digit_value b ≡ v → is_spacing b ≡ false → Same bs
    → result_ok (pairs_from half (digits_at p (b ∷ bs))) ≡ opt_from half (b ∷ tight bs)
by_digit half p b bs None h s ih =
    ap (λ (r : Result (List Digit) HexFault). result_ok (pairs_from half r)) (fault_step p b bs s h) ∙ ap (λ (r : Result (List ℕ) HexFault). result_ok r) (fault_from half _) ∙ sym (bad_from half b (tight bs) h)
by_digit None p b bs (Some v) h s ih =
    ap (λ (r : Result (List Digit) HexFault). result_ok (pairs_from None r)) (digit_step p b v bs s h) ∙ ih (Some (record { value = v; place = p })) (behind_byte p b) ∙ sym (first_digit b v (tight bs) h)
by_digit (Some d) p b bs (Some v) h s ih =
    ap (λ (r : Result (List Digit) HexFault). result_ok (pairs_from (Some d) r)) (digit_step p b v bs s h) ∙ second_ok d (record { value = v; place = p }) (digits_at (behind_byte p b) bs)
    ∙ ap (byte_before (Some d.value) (Some v)) (ih None (behind_byte p b)) ∙ ap (λ x. byte_before (Some d.value) x (opt_pairs (tight bs))) (sym h)

by_spacing : (half : Option Digit) (p : Place) (b : ℕ) (bs : List ℕ) (t : Bool) → is_spacing b ≡ t → Same bs → result_ok (pairs_from half (digits_at p (b ∷ bs))) ≡ opt_from half (tight (b ∷ bs))
by_spacing half p b bs true h ih =
    ap (λ (r : Result (List Digit) HexFault). result_ok (pairs_from half r)) (spacing_step p b bs h) ∙ ih half (behind_byte p b) ∙ ap (opt_from half) (sym (tight_skips b bs h))
by_spacing half p b bs false h ih = by_digit half p b bs (hex_digit_value b) refl h ih ∙ ap (opt_from half) (sym (tight_keeps b bs h))

same : (bs : List ℕ) → Same bs
same [] None p = refl
same [] (Some d) p = refl
same (b ∷ bs) half p = by_spacing half p b bs (is_spacing b) refl (same bs)

pub is_decoded : IsDecoded
is_decoded text h =
    ap (λ t. result_ok (cond t (dump_bytes text) (bytes_at (record { line = 1; column = 1 }) text))) h ∙ same text None (record { line = 1; column = 1 }) ∙ sym (decode_ok (tight text))

-- ---- digits without spacing

abbrev AreDigits : List ℕ → Type 0
AreDigits s = AllPass is_hex_digit s

abbrev pub passes : ℕ → Type 0
passes b = is_hex_digit b ≡ true

digit_is_no_spacing : (b : ℕ) → is_hex_digit b ≡ true → is_spacing b ≡ false
digit_is_no_spacing b h = grind (arith, nat_tests)

digit_is_no_colon : (b : ℕ) → is_hex_digit b ≡ true → (b == 58) ≡ false
digit_is_no_colon b h = grind (arith, nat_tests)

pub digit_is_no_blank : (b : ℕ) → is_hex_digit b ≡ true → is_blank b ≡ false
digit_is_no_blank b h = grind (arith, nat_tests)

pub digit_is_no_margin : (b : ℕ) → is_hex_digit b ≡ true → is_margin b ≡ false
digit_is_no_margin b h = grind (arith, nat_tests)

tight_digits : (s : List ℕ) → AreDigits s → tight s ≡ s
tight_digits [] h = refl
tight_digits (b ∷ bs) h = tight_keeps b bs (digit_is_no_spacing b (All-head passes b bs h)) ∙ ap (λ (x : List ℕ). b ∷ x) (tight_digits bs (All-tail passes b bs h))

no_colon : (s : List ℕ) → AreDigits s → begins (λ b. b == 58) s ≡ false
no_colon [] h = refl
no_colon (b ∷ bs) h = digit_is_no_colon b (All-head passes b bs h)

no_gap : (s : List ℕ) → AreDigits s → begins_gap s ≡ false
no_gap [] h = refl
no_gap (b ∷ bs) h = rw (digit_is_no_blank b (All-head passes b bs h)) refl

and_false : (x y : Bool) → ((x && false) && y) ≡ false
and_false true y = refl
and_false false y = refl

no_dump_line : (s : List ℕ) → AreDigits s → begins_dump s ≡ false
no_dump_line s h =
    let rest : AreDigits (behind is_zero s) = All-drop passes (prefix_len is_zero s) s h in
    rw (no_colon (behind is_zero s) rest, no_gap (behind is_zero s) rest) (and_false _ _)

no_dump : (s : List ℕ) → AreDigits s → is_dump s ≡ false
no_dump s h = no_dump_line (behind is_white s) (All-drop passes (prefix_len is_white s) s h)

ok_of : (r : Result (List ℕ) HexFault) (bytes : List ℕ) → result_ok r ≡ Some bytes → r ≡ Ok bytes
ok_of (Ok x) bytes h = let same : x ≡ bytes = cc in ap (λ (y : List ℕ). Ok y) same
ok_of (Err e) bytes h = cc h

back : (s bytes : List ℕ) → decode_of s ≡ Ok bytes → hex_bytes s ≡ Ok bytes
back s bytes h =
    let digits = (decode_of-ok s bytes h).1 in
    ok_of (hex_bytes s) bytes
    (is_decoded s (no_dump s digits) ∙ ap (λ (x : List ℕ). result_ok (decode_of x)) (tight_digits s digits) ∙ ap (λ (r : Result (List ℕ) FromHexError). result_ok r) h)

-- what decodes is read, wherever it stands
pub decoded_is_read : (p : Place) (text bytes : List ℕ) → decode_of (tight text) ≡ Ok bytes → bytes_at p text ≡ Ok bytes
decoded_is_read p text bytes h = ok_of (bytes_at p text) bytes (same text None p ∙ sym (decode_ok (tight text)) ∙ ap (λ (r : Result (List ℕ) FromHexError). result_ok r) h)

pub comes_back : ComesBack
comes_back bytes h = (back (encode_lower bytes) bytes (decode_of-encode_lower bytes h), back (encode_upper bytes) bytes (decode_of-encode_upper bytes h))
