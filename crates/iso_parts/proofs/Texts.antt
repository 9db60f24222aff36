-- The characters of a body: those that are read are those that it stands for.
use Rattle.std.proofs.Common.{◌≡◌, ℕ, ◌+◌, ◌*◌, ◌/◌, ◌%◌, ◌≤◌, Bool, true, false, ◌||◌, cond, eqb, List, [], ◌∷◌, length, Result, Ok, Err, ◌⊎◌, refl, sym, ap, ◌∙◌, arith, inl, inr}
use Rattle.std.proofs.lemmas.Bool.{and_parts, eqb-true}
use Rattle.std.proofs.lemmas.Bool.Decides.{nat_tests}
use Rattle.std.specs.List.{list_all}
use Rattle.hex.specs.Hex.{decode_of, IsBytes}
use Rattle.hex.specs.declared.error.FromHexError.{FromHexError}
use Rattle.hex.proofs.HexLemmas.{decode_of-ok, decode_of-encode_upper}
use Rattle.iso_parts.specs.declared.encoding.Coding.{Coding}
use Rattle.iso_parts.specs.declared.encoding.Coding.TheVariants as codings
use Rattle.iso_parts.specs.Class.{is_within}
use Rattle.iso_parts.specs.Part.{characters, with_filler, Stands, pairs, plain}
use Rattle.iso_parts.specs.Reading.{behind_filler, or_bad_hex, text_of, body_size}
use Rattle.iso_parts.proofs.Prefixes.{chosen_ok}

pub length_characters : (b : List ℕ) → length (characters b) ≡ 2 * length b
length_characters [] = refl
length_characters (x ∷ xs) = let rest = length_characters xs in omega arith

behind : (f : ℕ) (w : List ℕ) → (f ≡ 48) ⊎ (f ≡ 63) → behind_filler (f ∷ w) ≡ Ok w
behind f w (inl e) = rw e refl
behind f w (inr e) = rw e refl

bcd_again : (t : Bool) (f : ℕ) (cs w : List ℕ) → (f ≡ 48) ⊎ (f ≡ 63) → cs ≡ cond t (f ∷ w) w → cond t (behind_filler cs) (Ok cs) ≡ Ok w
bcd_again true f cs w filler e = ap behind_filler e ∙ behind f w filler
bcd_again false f cs w filler e = ap Ok e

filler_of : (f : ℕ) → (eqb f 48 || eqb f 63) ≡ true → (f ≡ 48) ⊎ (f ≡ 63)
filler_of f h = grind (arith, nat_tests)

-- the characters that a body has, with some filler
abbrev Filled : Bool → List ℕ → List ℕ → Type 0
Filled t cs w = (f : ℕ) × ((f ≡ 48) ⊎ (f ≡ 63)) × (cs ≡ cond t (f ∷ w) w)

bcd_takes : (t : Bool) (cs w : List ℕ) → cond t (behind_filler cs) (Ok cs) ≡ Ok w → Filled t cs w
bcd_takes false cs w e = (48, inl refl, cc)
bcd_takes true [] w e = absurd cc
bcd_takes true (f ∷ cs) w e =
    let got = chosen_ok _ _ _ _ e in
    (f, filler_of f got.0, ap (λ (l : List ℕ). f ∷ l) got.1)

-- what a body stands for is read
pub text_again : (c : Coding) (b w : List ℕ) → Stands c b w → text_of c (length w) b ≡ Ok w
text_again codings.Ascii b w h = ap Ok h
text_again codings.Raw b w h = ap Ok h
text_again codings.HexText b w h = ap or_bad_hex h
text_again codings.Bcd b w h = bcd_again (eqb (length w % 2) 1) h.0 (characters b) w h.1 h.2

-- and takes that many bytes
pub size_again : (c : Coding) (b w : List ℕ) → Stands c b w → length b ≡ body_size c (length w)
size_again codings.Ascii b w h = ap length h
size_again codings.Raw b w h = ap length h
size_again codings.HexText b w h = (decode_of-ok b w h).2
size_again codings.Bcd b w h =
    let len : 2 * length b ≡ length (with_filler h.0 w) = sym (length_characters b) ∙ ap length h.2 in
    grind (arith, nat_tests)

-- what is read is what the body stands for
pub record IsText (c : Coding) (n : ℕ) (b w : List ℕ) : Type 0 where
  pub stands : Stands c b w
  pub count : length w ≡ n

hex_ok : (r : Result (List ℕ) FromHexError) (w : List ℕ) → or_bad_hex r ≡ Ok w → r ≡ Ok w
hex_ok (Ok v) w e = ap Ok cc
hex_ok (Err d) w e = absurd cc

pub text_takes : (c : Coding) (n : ℕ) (b w : List ℕ) → length b ≡ body_size c n → text_of c n b ≡ Ok w → IsText c n b w
text_takes codings.Ascii n b w len h = let same : b ≡ w = cc in record { stands = same; count = sym (ap length same) ∙ len }
text_takes codings.Raw n b w len h = let same : b ≡ w = cc in record { stands = same; count = sym (ap length same) ∙ len }
text_takes codings.HexText n b w len h =
    let same = hex_ok (decode_of b) w h in
    record { stands = same; count = omega (arith, (decode_of-ok b w same).2) }
text_takes codings.Bcd n b w len h =
    let got = bcd_takes (eqb (n % 2) 1) (characters b) w h in
    let counted : 2 * length b ≡ length (cond (eqb (n % 2) 1) (got.0 ∷ w) w) = sym (length_characters b) ∙ ap length got.2 in
    let count : length w ≡ n = grind (arith, nat_tests) in
    record { stands = (got.0, got.1, rw count got.2); count = count }

-- ---- what is written stands for the characters

-- each character stands for a nibble
abbrev pub has_nibbles : List ℕ → Bool
has_nibbles w = list_all (is_within 48 63) w

within_low : (a : ℕ) → is_within 48 63 a ≡ true → 48 ≤ a
within_low a h = grind (arith, nat_tests)

within_high : (a : ℕ) → is_within 48 63 a ≡ true → a ≤ 63
within_high a h = grind (arith, nat_tests)

characters-pairs : (w : List ℕ) → length w % 2 ≡ 0 → has_nibbles w ≡ true → characters (pairs w) ≡ w
characters-pairs [] even h = refl
characters-pairs (x ∷ []) even h = absurd (omega arith)
characters-pairs (x ∷ y ∷ rest) even h =
    let one = and_parts _ _ h in
    let two = and_parts _ _ one.1 in
    let x_low = within_low x one.0 in
    let x_high = within_high x one.0 in
    let y_low = within_low y two.0 in
    let y_high = within_high y two.0 in
    let high : 48 + (16 * (x % 16) + y % 16) / 16 ≡ x = omega arith in
    let low : 48 + (16 * (x % 16) + y % 16) % 16 ≡ y = omega arith in
    ap (λ (c : ℕ). c ∷ (48 + (16 * (x % 16) + y % 16) % 16) ∷ characters (pairs rest)) high
    ∙ ap (λ (c : ℕ). x ∷ c ∷ characters (pairs rest)) low
    ∙ ap (λ (l : List ℕ). x ∷ y ∷ l) (characters-pairs rest (omega arith) two.1)

filled_pairs : (t : Bool) (w : List ℕ) → eqb (length w % 2) 1 ≡ t → has_nibbles w ≡ true → characters (pairs (cond t (48 ∷ w) w)) ≡ cond t (48 ∷ w) w
filled_pairs true w odd h = let is_odd = eqb-true _ _ odd in characters-pairs (48 ∷ w) (omega arith) h
filled_pairs false w even h = let is_even : length w % 2 ≡ 0 = grind (arith, nat_tests) in characters-pairs w is_even h

-- the characters can be coded
pub record AreCoded (c : Coding) (w : List ℕ) : Type 0 where
  pub bytes : c ≡ codings.HexText → IsBytes w
  pub nibbles : c ≡ codings.Bcd → has_nibbles w ≡ true

pub plain_stands : (c : Coding) (w : List ℕ) → AreCoded c w → Stands c (plain c w) w
plain_stands codings.Ascii w h = refl
plain_stands codings.Raw w h = refl
plain_stands codings.HexText w h = decode_of-encode_upper w (h.bytes refl)
plain_stands codings.Bcd w h = (48, inl refl, filled_pairs (eqb (length w % 2) 1) w refl (h.nibbles refl))
