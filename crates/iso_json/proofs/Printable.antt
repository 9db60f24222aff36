-- The text of a value that its row takes is of printable characters.
use Rattle.std.proofs.Common.{◌≡◌, ◌≢◌, ℕ, ◌≤◌, Bool, true, List, [], ◌∷◌, ◌++◌, ◌⊎◌, inl, inr, refl, ap, sym, ◌∙◌, arith}
use Rattle.std.specs.Prelude.{◌||◌, ◌==◌, nat_le, not}
use Rattle.std.specs.List.{flat_map, list_all}
use Rattle.std.proofs.lemmas.Bool.{and_parts, and_from, or_cases, cases_eq, leb-true, le-leb, eqb-true, ne_eqb}
use Rattle.json.specs.Print.{escape, escape_byte}
use Rattle.json.proofs.Printed.Strings.{escape_byte_plain}
use Rattle.hex.specs.Hex.{IsBytes, encode_upper}
use Rattle.iso_parts.specs.Class.{is_within, is_digit, is_letter, is_member, is_first, is_in_class}
use Rattle.iso_parts.specs.declared.class.CharClass.{CharClass}
use Rattle.iso_parts.specs.declared.class.CharClass.TheVariants as classes
use Rattle.iso_wire.specs.Describing.{clear_text}
use Rattle.iso_json.specs.Written.{escaped, is_plain}
use Rattle.iso_json.proofs.Escapes.{escaped_all, escaped_plain, plain_hex}
use Rattle.std.specs.Str.{IsAscii}
use Rattle.std.proofs.lemmas.Str.Ascii.{IsAscii-nil, IsAscii-cons}
use Rattle.std.proofs.lemmas.List.Folds.{list_all-append}

-- a printable character
abbrev pub is_printable : ℕ → Bool
is_printable b = is_within 32 126 b

wider : (low high least most b : ℕ) → least ≤ low → high ≤ most → is_within low high b ≡ true → is_within least most b ≡ true
wider low high least most b p q h =
    let parts = and_parts (nat_le low b) (nat_le b high) h in
    let above : low ≤ b = leb-true low b parts.0 in
    let below : b ≤ high = leb-true b high parts.1 in
    and_from (nat_le least b) (nat_le b most) (le-leb least b (omega arith)) (le-leb b most (omega arith))

digit_printable : (b : ℕ) → is_digit b ≡ true → is_printable b ≡ true
digit_printable b h = wider 0x30 0x39 32 126 b (omega arith) (omega arith) h

letter_printable : (b : ℕ) → is_letter b ≡ true → is_printable b ≡ true
letter_printable b h =
    elim (or_cases (is_within 0x41 0x5A b) (is_within 0x61 0x7A b) h) [
      | inl upper ↦ wider 0x41 0x5A 32 126 b (omega arith) (omega arith) upper
      | inr lower ↦ wider 0x61 0x7A 32 126 b (omega arith) (omega arith) lower
    ]

equal_printable : (b n : ℕ) → is_printable n ≡ true → (b == n) ≡ true → is_printable b ≡ true
equal_printable b n p h = rw (eqb-true b n h) p

member_printable : (class : CharClass) (b : ℕ) → class ≢ classes.B → is_member class b ≡ true → is_printable b ≡ true
member_printable classes.N b other h = digit_printable b h
member_printable classes.A b other h = letter_printable b h
member_printable classes.AN b other h =
    elim (or_cases (is_letter b) (is_digit b) h) [ inl letter ↦ letter_printable b letter | inr digit ↦ digit_printable b digit ]
member_printable classes.ANS b other h = h
member_printable classes.Z b other h = wider 0x30 0x3F 32 126 b (omega arith) (omega arith) h
member_printable classes.ZD b other h =
    elim (or_cases (is_within 0x30 0x3F b) (b == 0x44) h) [
      | inl track ↦ wider 0x30 0x3F 32 126 b (omega arith) (omega arith) track
      | inr d ↦ equal_printable b 0x44 refl d
    ]
member_printable classes.XN b other h = digit_printable b h
member_printable classes.B b other h = absurd (other refl)

first_printable : (class : CharClass) (b : ℕ) → class ≢ classes.B → is_first class b ≡ true → is_printable b ≡ true
first_printable classes.XN b other h =
    elim (or_cases (b == 0x43) (b == 0x44) h) [ inl c ↦ equal_printable b 0x43 refl c | inr d ↦ equal_printable b 0x44 refl d ]
first_printable classes.N b other h = member_printable classes.N b other h
first_printable classes.A b other h = member_printable classes.A b other h
first_printable classes.AN b other h = member_printable classes.AN b other h
first_printable classes.ANS b other h = member_printable classes.ANS b other h
first_printable classes.Z b other h = member_printable classes.Z b other h
first_printable classes.ZD b other h = member_printable classes.ZD b other h
first_printable classes.B b other h = absurd (other refl)

all_implied : (p q : ℕ → Bool) → ((b : ℕ) → p b ≡ true → q b ≡ true) → (bs : List ℕ) → list_all p bs ≡ true → list_all q bs ≡ true
all_implied p q step [] h = refl
all_implied p q step (b ∷ bs) h =
    let parts = and_parts (p b) (list_all p bs) h in
    and_from (q b) (list_all q bs) (step b parts.0) (all_implied p q step bs parts.1)

value_printable : (class : CharClass) (v : List ℕ) → class ≢ classes.B → is_in_class class v ≡ true → list_all is_printable v ≡ true
value_printable class [] other h = refl
value_printable class (b ∷ bs) other h =
    let parts = and_parts (is_first class b) (list_all (is_member class) bs) h in
    and_from (is_printable b) (list_all is_printable bs) (first_printable class b other parts.0) (all_implied (is_member class) is_printable (λ x. member_printable class x other) bs parts.1)

pub plain_printable : (bs : List ℕ) → list_all is_plain bs ≡ true → list_all is_printable bs ≡ true
plain_printable bs = all_implied is_plain is_printable (λ b h. (and_parts (is_printable b) (not (b == 34 || b == 92)) h).0) bs

hex_printable : (v : List ℕ) → IsBytes v → list_all is_printable (encode_upper v) ≡ true
hex_printable v bytes = plain_printable (encode_upper v) (plain_hex v bytes)

-- the text of a value that its class has
pub text_printable : (class : CharClass) (v : List ℕ) → IsBytes v → is_in_class class v ≡ true → list_all is_printable (clear_text class v) ≡ true
text_printable classes.B v bytes h = hex_printable v bytes
text_printable classes.N v bytes h = value_printable classes.N v (λ e. cc) h
text_printable classes.A v bytes h = value_printable classes.A v (λ e. cc) h
text_printable classes.AN v bytes h = value_printable classes.AN v (λ e. cc) h
text_printable classes.ANS v bytes h = value_printable classes.ANS v (λ e. cc) h
text_printable classes.Z v bytes h = value_printable classes.Z v (λ e. cc) h
text_printable classes.ZD v bytes h = value_printable classes.ZD v (λ e. cc) h
text_printable classes.XN v bytes h = value_printable classes.XN v (λ e. cc) h

-- ---- escapes

quote_same : escaped 34 ≡ escape_byte 34
unfolding escaped escape_byte
quote_same = refl

backslash_same : escaped 92 ≡ escape_byte 92
unfolding escaped escape_byte
backslash_same = refl

plain_from : (b : ℕ) → (b ≡ 34 → ⊥) → (b ≡ 92 → ⊥) → is_printable b ≡ true → is_plain b ≡ true
plain_from b q s h = and_from (is_printable b) (not (b == 34 || b == 92)) h (rw (ne_eqb b 34 q, ne_eqb b 92 s) refl)

escaped_same : (b : ℕ) → is_printable b ≡ true → escaped b ≡ escape_byte b
escaped_same b h = go (cases_eq b 34) (cases_eq b 92)
  where
    least : 32 ≤ b
    least = leb-true 32 b (and_parts (nat_le 32 b) (nat_le b 126) h).0

    go : (b ≡ 34) ⊎ (b ≡ 34 → ⊥) → (b ≡ 92) ⊎ (b ≡ 92 → ⊥) → escaped b ≡ escape_byte b
    go (inl e) other = ap escaped e ∙ quote_same ∙ sym (ap escape_byte e)
    go (inr q) (inl e) = ap escaped e ∙ backslash_same ∙ sym (ap escape_byte e)
    go (inr q) (inr s) = escaped_plain b (plain_from b q s h) ∙ sym (escape_byte_plain b q s least)

-- printable characters are escaped as the library does
pub escaped_as : (bs : List ℕ) → list_all is_printable bs ≡ true → flat_map escaped bs ≡ escape bs
escaped_as [] h = refl
escaped_as (b ∷ bs) h =
    let parts = and_parts (is_printable b) (list_all is_printable bs) h in
    rw (escaped_same b parts.0, escaped_as bs parts.1) refl

escaped_printable : (b : ℕ) → is_printable b ≡ true → list_all is_printable (escaped b) ≡ true
unfolding escaped
escaped_printable b h = go (cases_eq b 34) (cases_eq b 92)
  where
    go : (b ≡ 34) ⊎ (b ≡ 34 → ⊥) → (b ≡ 92) ⊎ (b ≡ 92 → ⊥) → list_all is_printable (escaped b) ≡ true
    go (inl e) other = ap (λ (x : ℕ). list_all is_printable (escaped x)) e
    go (inr q) (inl e) = ap (λ (x : ℕ). list_all is_printable (escaped x)) e
    go (inr q) (inr s) = ap (list_all is_printable) (escaped_plain b (plain_from b q s h)) ∙ and_from (is_printable b) true h refl

pub both_printable : (xs ys : List ℕ) → list_all is_printable xs ≡ true → list_all is_printable ys ≡ true → list_all is_printable (xs ++ ys) ≡ true
both_printable xs ys p q = list_all-append is_printable xs ys ∙ and_from (list_all is_printable xs) (list_all is_printable ys) p q

pub escaped_all_printable : (bs : List ℕ) → list_all is_printable bs ≡ true → list_all is_printable (flat_map escaped bs) ≡ true
escaped_all_printable [] h = refl
escaped_all_printable (b ∷ bs) h =
    let parts = and_parts (is_printable b) (list_all is_printable bs) h in
    both_printable (escaped b) (flat_map escaped bs) (escaped_printable b parts.0) (escaped_all_printable bs parts.1)

pub printable_ascii : (bs : List ℕ) → list_all is_printable bs ≡ true → IsAscii bs
printable_ascii [] h = IsAscii-nil
printable_ascii (b ∷ bs) h =
    let parts = and_parts (is_printable b) (list_all is_printable bs) h in
    let most : b ≤ 126 = leb-true b 126 (and_parts (nat_le 32 b) (nat_le b 126) parts.0).1 in
    IsAscii-cons b bs (omega arith) (printable_ascii bs parts.1)

-- ---- digits

pub digit_plain : (b : ℕ) → 48 ≤ b → b ≤ 57 → is_plain b ≡ true
digit_plain b low high =
    plain_from b (λ e. omega arith) (λ e. omega arith) (and_from (nat_le 32 b) (nat_le b 126) (le-leb 32 b (omega arith)) (le-leb b 126 (omega arith)))

-- plain characters are not escaped by the library
pub escape_plain : (bs : List ℕ) → list_all is_plain bs ≡ true → escape bs ≡ bs
escape_plain bs h = sym (escaped_as bs (plain_printable bs h)) ∙ escaped_all bs h
