-- Judging a body, and what is judged good is a part.
use Rattle.std.proofs.Common.{◌≡◌, ◌≢◌, ℕ, zero, suc, ◌+◌, ◌*◌, ◌/◌, ◌%◌, ◌≤◌, ◌<◌, Bool, true, false, cond, ltb, eqb, List, [], ◌∷◌, length, take, drop, reverse, get_or, Some, None, Result, Ok, Err, refl, ap, subst, ◌∙◌, arith}
use Rattle.std.specs.List.{list_all}
use Rattle.std.proofs.lemmas.Bool.Decides.{nat_tests}
use Rattle.std.proofs.lemmas.Bool.{and_parts, cond-true, cond-false, ltb-true, ltb-false, lt-ltb, le-ltb}
use Rattle.std.proofs.lemmas.List.{length-drop, reverse-append}
use Rattle.std.proofs.lemmas.List.Folds.{list_all-append}
use Rattle.std.proofs.lemmas.List.Sums.{AllPass-from_list_all, list_all-from_AllPass}
use Rattle.hex.specs.Hex.{decode_of, is_hex_digit}
use Rattle.hex.specs.declared.error.FromHexError.{FromHexError}
use Rattle.hex.proofs.HexLemmas.{decode_of-digits, decode_of-ok}
use Rattle.iso_parts.specs.Judging.{Judges, IfJudged, count_at, size_at, some_count, some_size}
use Rattle.iso_parts.specs.declared.class.CharClass.{CharClass}
use Rattle.iso_parts.specs.declared.class.CharClass.TheVariants as classes
use Rattle.iso_parts.specs.declared.encoding.Coding.{Coding}
use Rattle.iso_parts.specs.declared.encoding.Coding.TheVariants as codings
use Rattle.iso_parts.specs.declared.padding.Pad.{Pad}
use Rattle.iso_parts.specs.declared.padding.Pad.TheVariants as pads
use Rattle.iso_parts.specs.declared.spec.FieldSpec.{FieldSpec}
use Rattle.iso_parts.specs.declared.fault.FieldFault.{FieldFault}
use Rattle.iso_parts.specs.declared.fault.FieldFault.TheVariants.{BadHex, NotInClass}
use Rattle.iso_parts.specs.declared.judging.Judged.{Judged}
use Rattle.iso_parts.specs.declared.judging.Judged.TheVariants as judgements
use Rattle.iso_parts.specs.Class.{is_digit, is_within, is_in_class}
use Rattle.iso_parts.specs.Spec.{IsGood, is_coded}
use Rattle.iso_parts.specs.Part.{characters, Part}
use Rattle.iso_parts.specs.Reading.{◌>>=◌, or_bad_hex, text_of, without_front, without_padding, value_of, body_of, prefix_size, prefix_of, body_size, got, more, fault, at_prefix, at_body, part_at}
use Rattle.iso_parts.proofs.Takes.{part_takes}
use Rattle.iso_parts.proofs.Texts.{has_nibbles}

-- characters that are in the class without their padding
pub value_is : (s : FieldSpec) (w : List ℕ) → is_in_class s.class (without_padding s.pad w) ≡ true → value_of s w ≡ Ok (without_padding s.pad w)
value_is s w h = cond-true (is_in_class s.class (without_padding s.pad w)) (Ok (without_padding s.pad w)) (Err NotInClass) h

digits_in_class : (w : List ℕ) → is_in_class classes.N w ≡ list_all is_digit w
digits_in_class [] = refl
digits_in_class (x ∷ xs) = refl

class_of_digits : (c : CharClass) (w : List ℕ) → c ≡ classes.N → is_in_class c w ≡ list_all is_digit w
class_of_digits c w is = ap (λ (d : CharClass). is_in_class d w) is ∙ digits_in_class w

-- digits behind their padding
pub digits_judged : (s : FieldSpec) (w : List ℕ) → s.class ≡ classes.N → list_all is_digit (without_padding s.pad w) ≡ true → value_of s w ≡ Ok (without_padding s.pad w)
digits_judged s w is h = value_is s w (class_of_digits s.class (without_padding s.pad w) is ∙ h)

pub digits_refused : (s : FieldSpec) (w : List ℕ) → s.class ≡ classes.N → list_all is_digit (without_padding s.pad w) ≡ false → value_of s w ≡ Err NotInClass
digits_refused s w is h = ap (λ (t : Bool). cond t (Ok (without_padding s.pad w)) (Err NotInClass)) (class_of_digits s.class (without_padding s.pad w) is ∙ h)

-- ---- packed characters of any nibble

class_of_packed : (c : CharClass) → is_coded codings.Bcd c ≡ true → c ≢ classes.N → c ≡ classes.Z
class_of_packed classes.Z h other = refl
class_of_packed classes.N h other = absurd (other refl)
class_of_packed classes.A h other = absurd cc
class_of_packed classes.AN h other = absurd cc
class_of_packed classes.ANS h other = absurd cc
class_of_packed classes.ZD h other = absurd cc
class_of_packed classes.XN h other = absurd cc
class_of_packed classes.B h other = absurd cc

nibble_within : (a : ℕ) → a < 16 → is_within 48 63 (48 + a) ≡ true
nibble_within a small = grind (arith, nat_tests)

characters_nibbles : (b : List ℕ) → ((i : ℕ) → get_or b i 0 < 256) → has_nibbles (characters b) ≡ true
characters_nibbles [] bytes = refl
characters_nibbles (x ∷ xs) bytes =
    let byte : x < 256 = bytes 0 in
    rw (nibble_within (x / 16) (omega arith), nibble_within (x % 16) (omega arith)) (characters_nibbles xs (λ i. bytes (suc i)))

nibbles_behind : (n : ℕ) (w : List ℕ) → has_nibbles w ≡ true → has_nibbles (drop n w) ≡ true
nibbles_behind zero w all = all
nibbles_behind (suc n) [] all = refl
nibbles_behind (suc n) (x ∷ xs) all = nibbles_behind n xs (and_parts (is_within 48 63 x) (has_nibbles xs) all).1

nibbles_in_class : (w : List ℕ) → has_nibbles w ≡ true → is_in_class classes.Z w ≡ true
nibbles_in_class [] all = refl
nibbles_in_class (x ∷ xs) all = all

nibbles_reversed : (w : List ℕ) → has_nibbles w ≡ true → has_nibbles (reverse w) ≡ true
nibbles_reversed [] all = refl
nibbles_reversed (x ∷ xs) all =
    let both = and_parts (is_within 48 63 x) (has_nibbles xs) all in
    ap has_nibbles (reverse-append (x ∷ []) xs) ∙ list_all-append (is_within 48 63) (reverse xs) (x ∷ []) ∙ rw (nibbles_reversed xs both.1, both.0) refl

stripped_by : (t : Bool) (a b : List ℕ) → has_nibbles a ≡ true → has_nibbles b ≡ true → has_nibbles (cond t a b) ≡ true
stripped_by true a b first second = first
stripped_by false a b first second = second

nibbles_stripped : (p : ℕ) (w : List ℕ) → has_nibbles w ≡ true → has_nibbles (without_front p w) ≡ true
nibbles_stripped p [] all = refl
nibbles_stripped p (x ∷ xs) all =
    let rest = nibbles_stripped p xs (and_parts (is_within 48 63 x) (has_nibbles xs) all).1 in
    stripped_by (eqb x p) (without_front p xs) (x ∷ xs) rest all

nibbles_unpadded : (p : Pad) (w : List ℕ) → has_nibbles w ≡ true → has_nibbles (without_padding p w) ≡ true
nibbles_unpadded pads.None w all = all
nibbles_unpadded (pads.Left p) w all = nibbles_stripped p w all
nibbles_unpadded (pads.Right p) w all = nibbles_reversed (without_front p (reverse w)) (nibbles_stripped p (reverse w) (nibbles_reversed w all))

-- any nibbles are a value
pub any_packed : (s : FieldSpec) (n : ℕ) (b : List ℕ) → IsGood s → s.coding ≡ codings.Bcd → s.class ≢ classes.N → ((i : ℕ) → get_or b i 0 < 256)
    → value_of s (drop n (characters b)) ≡ Ok (without_padding s.pad (drop n (characters b)))
any_packed s n b good coded other bytes =
    let w : List ℕ = drop n (characters b) in
    let is : s.class ≡ classes.Z = class_of_packed s.class (subst (λ (c : Coding). is_coded c s.class ≡ true) coded good.coding) other in
    value_is s w (
    ap (λ (c : CharClass). is_in_class c (without_padding s.pad w)) is
    ∙ nibbles_in_class (without_padding s.pad w) (nibbles_unpadded s.pad w (nibbles_behind n (characters b) (characters_nibbles b bytes))))

-- ---- hexadecimal digits

pub bytes_in_class : (w : List ℕ) → is_in_class classes.B w ≡ true
bytes_in_class [] = refl
bytes_in_class (x ∷ xs) = all_bytes xs
  where
    all_bytes : (w : List ℕ) → list_all (λ b. true) w ≡ true
    all_bytes [] = refl
    all_bytes (x ∷ xs) = all_bytes xs

class_of_hex : (c : CharClass) → is_coded codings.HexText c ≡ true → c ≡ classes.B
class_of_hex classes.B h = refl
class_of_hex classes.N h = absurd cc
class_of_hex classes.A h = absurd cc
class_of_hex classes.AN h = absurd cc
class_of_hex classes.ANS h = absurd cc
class_of_hex classes.Z h = absurd cc
class_of_hex classes.ZD h = absurd cc
class_of_hex classes.XN h = absurd cc

-- without padding each value of bytes is taken
pub any_bytes : (s : FieldSpec) (w : List ℕ) → s.class ≡ classes.B → value_of s w ≡ Ok (without_padding s.pad w)
any_bytes s w is = value_is s w (ap (λ (c : CharClass). is_in_class c (without_padding s.pad w)) is ∙ bytes_in_class (without_padding s.pad w))

pub hex_judged : (s : FieldSpec) (n : ℕ) (b : List ℕ) → IsGood s → s.coding ≡ codings.HexText → length b ≡ 2 * n → list_all is_hex_digit b ≡ true → (v : List ℕ) × (body_of s n b ≡ Ok v)
hex_judged s n b good is size digits =
    let even : length b % 2 ≡ 0 = omega arith in
    let read = decode_of-digits b even (AllPass-from_list_all is_hex_digit b digits) in
    let class : s.class ≡ classes.B = class_of_hex s.class (subst (λ (c : Coding). is_coded c s.class ≡ true) is good.coding) in (
      without_padding s.pad read.0,
      ap (λ (c : Coding). text_of c n b >>= value_of s) is
          ∙ ap (λ r. or_bad_hex r >>= value_of s) read.1
          ∙ any_bytes s read.0 class,
    )

hex_refused_by : (s : FieldSpec) (b : List ℕ) (r : Result (List ℕ) FromHexError) → decode_of b ≡ r → list_all is_hex_digit b ≡ false → (or_bad_hex r >>= value_of s) ≡ Err BadHex
hex_refused_by s b (Err e) is bad = refl
hex_refused_by s b (Ok w) is bad = let all = list_all-from_AllPass is_hex_digit b (decode_of-ok b w is).1 in absurd cc

pub hex_refused : (s : FieldSpec) (n : ℕ) (b : List ℕ) → s.coding ≡ codings.HexText → list_all is_hex_digit b ≡ false → body_of s n b ≡ Err BadHex
hex_refused s n b is bad = ap (λ (c : Coding). text_of c n b >>= value_of s) is ∙ hex_refused_by s b (decode_of b) refl bad

-- ---- a part, by its length and its body

count_is : (t : Bool) (r : Result ℕ FieldFault) (n : ℕ) → cond t (Ok None) (some_count r) ≡ Ok (Some n) → (t ≡ false) × (r ≡ Ok n)
count_is true r n e = absurd cc
count_is false (Ok m) n e = let same : m ≡ n = cc in (refl, ap Ok same)
count_is false (Err f) n e = absurd cc

count_fails : (t : Bool) (r : Result ℕ FieldFault) (e : FieldFault) → cond t (Ok None) (some_count r) ≡ Err e → (t ≡ false) × (r ≡ Err e)
count_fails true r e is = absurd cc
count_fails false (Ok m) e is = absurd cc
count_fails false (Err f) e is = let same : f ≡ e = cc in (refl, ap Err same)

size_is : (t : Bool) (size n : ℕ) (r : Result (List ℕ) FieldFault) → cond t (Ok None) (some_size size r) ≡ Ok (Some n) → (t ≡ false) × (size ≡ n) × ((v : List ℕ) × (r ≡ Ok v))
size_is true size n r e = absurd cc
size_is false size n (Ok v) e = let same : size ≡ n = cc in (refl, same, (v, refl))
size_is false size n (Err f) e = absurd cc

size_fails : (t : Bool) (size : ℕ) (r : Result (List ℕ) FieldFault) (e : FieldFault) → cond t (Ok None) (some_size size r) ≡ Err e → (t ≡ false) × (r ≡ Err e)
size_fails true size r e is = absurd cc
size_fails false size (Ok v) e is = absurd cc
size_fails false size (Err f) e is = let same : f ≡ e = cc in (refl, ap Err same)

-- a body is whole behind its length where the part is
same_room : (t : Bool) (front size : ℕ) (b : List ℕ) → front ≤ length b → ltb (length (drop front b)) size ≡ t → ltb (length b) (front + size) ≡ t
same_room true front size b room is = lt-ltb (length b) (front + size) (omega (arith, ltb-true (length (drop front b)) size is, length-drop front b))
same_room false front size b room is = le-ltb (length b) (front + size) (omega (arith, ltb-false (length (drop front b)) size is, length-drop front b))

pub length_fails : (s : FieldSpec) (b : List ℕ) (e : FieldFault) → count_at s b ≡ Err e → part_at s b ≡ fault e
length_fails s b e is =
    let front = prefix_size s.length in
    let read = prefix_of s (take front b) in
    let bad = count_fails (ltb (length b) front) read e is in
    cond-false (ltb (length b) front) more (at_prefix s b read) bad.0 ∙ ap (at_prefix s b) bad.1

-- behind a good length the part is its body
counted : (s : FieldSpec) (b : List ℕ) (n : ℕ) → count_at s b ≡ Ok (Some n) → (prefix_size s.length ≤ length b) × (part_at s b ≡ at_prefix s b (Ok n))
counted s b n is =
    let front = prefix_size s.length in
    let read = prefix_of s (take front b) in
    let good = count_is (ltb (length b) front) read n is in
    (ltb-false (length b) front good.0, cond-false (ltb (length b) front) more (at_prefix s b read) good.0 ∙ ap (at_prefix s b) good.1)

abbrev body_read : FieldSpec → ℕ → List ℕ → Result (List ℕ) FieldFault
body_read s n b = body_of s n (take (body_size s.coding n) (drop (prefix_size s.length) b))

pub body_fails : (s : FieldSpec) (b : List ℕ) (n : ℕ) (e : FieldFault) → count_at s b ≡ Ok (Some n) → size_at s n (drop (prefix_size s.length) b) ≡ Err e → part_at s b ≡ fault e
body_fails s b n e is bad =
    let front = prefix_size s.length in
    let size = body_size s.coding n in
    let length_is = counted s b n is in
    let body = size_fails (ltb (length (drop front b)) size) size (body_read s n b) e bad in
    length_is.1 ∙ cond-false (ltb (length b) (front + size)) more (at_body (front + size) (body_read s n b)) (same_room false front size b length_is.0 body.0) ∙ ap (at_body (front + size)) body.1

pub body_good : (s : FieldSpec) (b : List ℕ) (n size : ℕ) → count_at s b ≡ Ok (Some n) → size_at s n (drop (prefix_size s.length) b) ≡ Ok (Some size) → (v : List ℕ) × (part_at s b ≡ got v (prefix_size s.length + size))
body_good s b n most is good =
    let front = prefix_size s.length in
    let size = body_size s.coding n in
    let length_is = counted s b n is in
    let body = size_is (ltb (length (drop front b)) size) size most (body_read s n b) good in
    let v : List ℕ = body.2.0 in (
      v,
      length_is.1 ∙ cond-false (ltb (length b) (front + size)) more (at_body (front + size) (body_read s n b)) (same_room false front size b length_is.0 body.0)
          ∙ ap (at_body (front + size)) body.2.1 ∙ ap (λ (k : ℕ). got v (front + k)) body.1,
    )

-- a whole body behind a good length makes the part
pub body_is : (s : FieldSpec) (b : List ℕ) (n : ℕ) (v : List ℕ) → count_at s b ≡ Ok (Some n) → body_size s.coding n ≤ length (drop (prefix_size s.length) b) → body_read s n b ≡ Ok v
    → part_at s b ≡ got v (prefix_size s.length + body_size s.coding n)
body_is s b n v is room read =
    let front = prefix_size s.length in
    let size = body_size s.coding n in
    let length_is = counted s b n is in
    length_is.1 ∙ cond-false (ltb (length b) (front + size)) more (at_body (front + size) (body_read s n b)) (same_room false front size b length_is.0 (le-ltb (length (drop front b)) size room)) ∙ ap (at_body (front + size)) read

-- ---- what a function that judges has found

pub is_judged : (s : FieldSpec) (b : List ℕ) (r : Result Judged FieldFault) (front : ℕ) → IsGood s → ((i : ℕ) → get_or b i 0 < 256) → Judges front r (part_at s b)
    → IfJudged r (λ body used. (used ≤ length b) × ((value : List ℕ) × Part s value (take used b)))
is_judged s b (Ok (judgements.Got body used)) front good fits h =
    let part = part_takes s b h.1.0 used good fits h.1.1 in
    (part.0, (h.1.0, part.1))
is_judged s b (Ok judgements.More) front good fits h = tt
is_judged s b (Err e) front good fits h = tt
