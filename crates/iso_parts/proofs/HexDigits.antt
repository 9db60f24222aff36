-- Hexadecimal digits that are read without an early end: each of them is one, or there is no word.
use Rattle.std.proofs.Common.{◌≡◌, ℕ, ◌+◌, ◌*◌, ◌<◌, ◌≤◌, Bool, true, false, List, length, take, drop, get_or, set, Some, None, Result, Ok, Err, refl, ◌∙◌, arith}
use Rattle.std.specs.List.{list_all}
use Rattle.std.proofs.lemmas.List.Folds.{list_all_at}
use Rattle.std.proofs.lemmas.List.Sums.{list_all-from_AllPass}
use Rattle.hex.specs.Hex.{decode_of, decode_pairs, hex_digit_value, is_hex_digit, pair_value}
use Rattle.hex.specs.declared.error.FromHexError.{FromHexError}
use Rattle.hex.proofs.HexLemmas.{decode_of-even, decode_of-ok}
use Rattle.hex.proofs.Pairs.{prepend, decode_step, decode_done}
use Rattle.iso_parts.specs.BitmapReading.{word_of}

-- the byte of two digits is read
pub digits_more : (s out : List ℕ) (i high low : ℕ) → 2 * i + 1 < length s → i < length out
    → hex_digit_value (get_or s (2 * i) 0) ≡ Some high → hex_digit_value (get_or s (2 * i + 1) 0) ≡ Some low
    → decode_pairs 0 s ≡ prepend (take i out) (decode_pairs (2 * i) (drop (2 * i) s))
    → decode_pairs 0 s ≡ prepend (take (i + 1) (set out i (high * 16 + low))) (decode_pairs (2 * (i + 1)) (drop (2 * (i + 1)) s))
digits_more s out i high low fits room one two said =
    let pair : pair_value (get_or s (2 * i) 0) (get_or s (2 * i + 1) 0) (2 * i) ≡ Ok (high * 16 + low) = rw (one, two) refl in
    decode_step s out i (high * 16 + low) fits room pair said

-- all digits are read
pub digits_done : (s out : List ℕ) (i : ℕ) → length s ≡ 2 * i → length out ≤ i
    → decode_pairs 0 s ≡ prepend (take i out) (decode_pairs (2 * i) (drop (2 * i) s)) → decode_of s ≡ Ok out
digits_done s out i size all said = decode_of-even s (omega arith) ∙ decode_done s out i all (omega arith) said

-- each of some digits is one
pub digit_at : (s : List ℕ) (k : ℕ) → k < length s → list_all is_hex_digit s ≡ true → is_hex_digit (get_or s k 0) ≡ true
digit_at s k within all = digit_by (is_hex_digit (get_or s k 0)) (λ bad. list_all_at is_hex_digit s k 0 within bad)
  where
    digit_by : (t : Bool) → (t ≡ false → list_all is_hex_digit s ≡ false) → t ≡ true
    digit_by true none = refl
    digit_by false none = let other = none refl in absurd cc

-- what isn't all digits tells no word
no_word_by : (s : List ℕ) (r : Result (List ℕ) FromHexError) → decode_of s ≡ r → list_all is_hex_digit s ≡ false → word_of r ≡ None
no_word_by s (Err e) is bad = refl
no_word_by s (Ok raw) is bad = let all = list_all-from_AllPass is_hex_digit s (decode_of-ok s raw is).1 in absurd cc

pub no_word : (s : List ℕ) → list_all is_hex_digit s ≡ false → word_of (decode_of s) ≡ None
no_word s bad = no_word_by s (decode_of s) refl bad
