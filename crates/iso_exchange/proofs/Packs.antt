-- Numbers in packed digits.
use Rattle.std.proofs.Common.{◌≡◌, ◌<◌, ℕ, zero, suc, ◌+◌, ◌-◌, ◌*◌, ◌/◌, ◌%◌, ◌^◌, true, false, refl, sym, ap, subst, ◌∙◌, List, [], ◌∷◌, ◌++◌, length, append_assoc, arith, Option, Some}
use native.Mathlib.Numerals.{unary_clauses}
use Rattle.std.specs.Prelude.{◌==◌, nat_le, slice_index}
use Rattle.std.specs.List.{list_all}
use Rattle.std.proofs.lemmas.Bool.{and_parts, eqb-true, le-leb}
use Rattle.std.proofs.lemmas.Bool.Decides.{nat_tests}
use Rattle.iso_parts.specs.Class.{is_digit, is_in_class}
use Rattle.iso_parts.specs.Part.{Body, Part, pairs, plain_part, with_filler, characters}
use Rattle.iso_parts.specs.PartLaws.{PartLaws}
use Rattle.iso_parts.specs.Spec.{IsGood, Fits}
use Rattle.iso_parts.specs.declared.class.CharClass.TheVariants as classes
use Rattle.iso_parts.specs.declared.spec.FieldSpec.{FieldSpec}
use Rattle.iso_table.specs.Layout.{row_at}
use Rattle.iso_wire.specs.Decimal.{decimal, number, number_in}
use Rattle.iso_wire.specs.DecimalLaws.{DecimalLaws}
use Rattle.iso_wire.specs.Spelling.{plain_by, plain_of}
use Rattle.iso_exchange.specs.Purchase.{AddsPart}
use Rattle.iso_exchange.specs.Packed.{packed, counted, IsCounted, IsPacked}

-- ---- written

-- a digit more than needed is a zero before the others
zero-before : (n v : ℕ) → v < 10 ^ n → decimal (suc n) v ≡ 48 ∷ decimal n v
zero-before zero v lt = let none : v ≡ 0 = omega arith in rw none refl
zero-before (suc n) v lt =
    let next : 10 ^ suc n ≡ 10 ^ n * 10 = simp unary_clauses refl in
    ap (λ (ds : List ℕ). ds ++ (48 + v % 10) ∷ []) (zero-before n (v / 10) (omega arith))

-- two characters more behind an even count of them
pairs-more : (k : ℕ) (xs : List ℕ) (h l : ℕ) → length xs ≡ 2 * k → pairs (xs ++ h ∷ l ∷ []) ≡ pairs xs ++ (16 * (h % 16) + l % 16) ∷ []
pairs-more zero [] h l even = refl
pairs-more zero (x ∷ xs) h l even = absurd (omega arith)
pairs-more (suc k) [] h l even = absurd (omega arith)
pairs-more (suc k) (x ∷ []) h l even = absurd (omega arith)
pairs-more (suc k) (x ∷ y ∷ xs) h l even = ap (λ (b : List ℕ). (16 * (x % 16) + y % 16) ∷ b) (pairs-more k xs h l (omega arith))

digit_of : (v : ℕ) → (48 + v % 10) % 16 ≡ v % 10
digit_of v = omega arith

hundreds : (v : ℕ) → v / 10 / 10 ≡ v / 100
hundreds v = omega arith

two-more : (n v : ℕ) → decimal (suc (suc n)) v ≡ decimal n (v / 100) ++ (48 + v / 10 % 10) ∷ (48 + v % 10) ∷ []
two-more n v =
    append_assoc (decimal n (v / 10 / 10)) ((48 + v / 10 % 10) ∷ []) ((48 + v % 10) ∷ [])
    ∙ ap (λ (k : ℕ). decimal n k ++ (48 + v / 10 % 10) ∷ (48 + v % 10) ∷ []) (hundreds v)

pub pairs-decimal : DecimalLaws → (n v : ℕ) → pairs (decimal (2 * n) v) ≡ packed n v
pairs-decimal decimals zero v = refl
pairs-decimal decimals (suc n) v =
    let size : 2 * suc n ≡ suc (suc (2 * n)) = omega arith in
    ap (λ (k : ℕ). pairs (decimal k v)) size
    ∙ ap pairs (two-more (2 * n) v)
    ∙ pairs-more n (decimal (2 * n) (v / 100)) (48 + v / 10 % 10) (48 + v % 10) (decimals.size (2 * n) (v / 100))
    ∙ rw (digit_of (v / 10), digit_of v, pairs-decimal decimals n (v / 100)) refl

even-own : (w : List ℕ) (n : ℕ) → length w ≡ 2 * n → with_filler 48 w ≡ w
even-own w n even = let no : (length w % 2 == 1) ≡ false = grind (arith, nat_tests) in rw no refl

even-any : (f : ℕ) (w : List ℕ) (n : ℕ) → length w ≡ 2 * n → with_filler f w ≡ w
even-any f w n even = let no : (length w % 2 == 1) ≡ false = grind (arith, nat_tests) in rw no refl

-- the part of a number's digits
pub part-packed : DecimalLaws → (s : FieldSpec) (n v : ℕ) → IsPacked s n → plain_part s (decimal (2 * n) v) ≡ packed n v
part-packed decimals s n v is =
    rw (is.length, is.digits.coding, is.digits.pad) (ap pairs (even-own (decimal (2 * n) v) n (decimals.size (2 * n) v)) ∙ pairs-decimal decimals n v)

in-class : (w : List ℕ) → list_all is_digit w ≡ true → is_in_class classes.N w ≡ true
in-class [] h = refl
in-class (b ∷ bs) h = h

all-digits : (w : List ℕ) → is_in_class classes.N w ≡ true → list_all is_digit w ≡ true
all-digits [] h = refl
all-digits (b ∷ bs) h = h

pub fits-packed : DecimalLaws → (s : FieldSpec) (n v : ℕ) → IsPacked s n → Fits s (decimal (2 * n) v)
fits-packed decimals s n v is = record {
  length = rw (is.length, is.digits.pad, is.max, decimals.size (2 * n) v) (grind (arith, nat_tests));
  class = rw is.digits.class (in-class (decimal (2 * n) v) (decimals.digits (2 * n) v));
  pad = rw is.digits.pad refl;
}

digits-bytes : (v : List ℕ) → list_all is_digit v ≡ true → (i : ℕ) → slice_index v i < 256
digits-bytes [] all i = omega arith
digits-bytes (d ∷ ds) all zero = let both = and_parts (is_digit d) (list_all is_digit ds) all in grind (arith, nat_tests)
digits-bytes (d ∷ ds) all (suc i) = digits-bytes ds (and_parts (is_digit d) (list_all is_digit ds) all).1 i

-- packed digits are the plain part of their number
pub adds-packed : PartLaws → DecimalLaws → (rows : List (Option FieldSpec)) (n bytes v : ℕ) (s : FieldSpec) (old new : List ℕ) → IsGood s → Some s ≡ row_at rows n → IsPacked s bytes → new ≡ old ++ packed bytes v
    → AddsPart rows n (decimal (2 * bytes) v) old new
adds-packed laws decimals rows n bytes v s old new good row is written =
    let digits = decimal (2 * bytes) v in
    let same : plain_part s digits ≡ plain_of rows (n, digits) = ap (λ (r : Option FieldSpec). plain_by r digits) row in (
      written ∙ ap (λ (b : List ℕ). old ++ b) (sym (part-packed decimals s bytes v is) ∙ same),
      (s, sym row, subst (λ (b : List ℕ). Part s digits b) same (laws.plain s digits good (fits-packed decimals s bytes v is) (digits-bytes digits (decimals.digits (2 * bytes) v)))),
    )

-- ---- written behind their count

odd-own : (w : List ℕ) (k : ℕ) → length w ≡ 2 * k + 1 → with_filler 48 w ≡ 48 ∷ w
odd-own w k odd = let yes : (length w % 2 == 1) ≡ true = grind (arith, nat_tests) in rw yes refl

-- an odd count of digits has a zero before them
filled : DecimalLaws → (d v : ℕ) → v < 10 ^ d → pairs (with_filler 48 (decimal d v)) ≡ packed ((d + 1) / 2) v
filled decimals d v lt = go (d % 2) refl
  where
    half : ℕ
    half = (d + 1) / 2

    go : (r : ℕ) → d % 2 ≡ r → pairs (with_filler 48 (decimal d v)) ≡ packed ((d + 1) / 2) v
    go zero e =
        let even : d ≡ 2 * half = omega arith in
        let size : length (decimal d v) ≡ 2 * half = decimals.size d v ∙ even in
        ap pairs (even-own (decimal d v) half size) ∙ ap (λ (k : ℕ). pairs (decimal k v)) even ∙ pairs-decimal decimals half v
    go (suc r) e =
        let next : suc d ≡ 2 * half = omega (arith, e) in
        let size : length (decimal d v) ≡ 2 * (half - 1) + 1 = decimals.size d v ∙ omega (arith, e) in
        ap pairs (odd-own (decimal d v) (half - 1) size ∙ sym (zero-before d v lt)) ∙ ap (λ (k : ℕ). pairs (decimal k v)) next ∙ pairs-decimal decimals half v

part-counted : DecimalLaws → (s : FieldSpec) (d v : ℕ) → IsCounted s d → v < 10 ^ d → plain_part s (decimal d v) ≡ counted d v
part-counted decimals s d v is lt =
    rw (is.length, is.packed.coding, is.packed.pad)
    (ap (λ (n : ℕ). (16 * (n / 10) + n % 10) ∷ pairs (with_filler 48 (decimal d v))) (decimals.size d v)
    ∙ ap (λ (b : List ℕ). (16 * (d / 10) + d % 10) ∷ b) (filled decimals d v lt))

fits-counted : DecimalLaws → (s : FieldSpec) (d v : ℕ) → IsCounted s d → Fits s (decimal d v)
fits-counted decimals s d v is = record {
  length = rw is.length (ap (λ (n : ℕ). nat_le n s.max) (decimals.size d v) ∙ le-leb _ _ is.most);
  class = rw is.packed.class (in-class (decimal d v) (decimals.digits d v));
  pad = rw is.packed.pad refl;
}

-- packed digits behind their count are the plain part of their number
pub adds-counted : PartLaws → DecimalLaws → (rows : List (Option FieldSpec)) (n d v : ℕ) (s : FieldSpec) (old new : List ℕ) → IsGood s → Some s ≡ row_at rows n → IsCounted s d → v < 10 ^ d
    → new ≡ old ++ counted d v → AddsPart rows n (decimal d v) old new
adds-counted laws decimals rows n d v s old new good row is lt written =
    let digits = decimal d v in
    let same : plain_part s digits ≡ plain_of rows (n, digits) = ap (λ (r : Option FieldSpec). plain_by r digits) row in (
      written ∙ ap (λ (b : List ℕ). old ++ b) (sym (part-counted decimals s d v is lt) ∙ same),
      (s, sym row, subst (λ (b : List ℕ). Part s digits b) same (laws.plain s digits good (fits-counted decimals s d v is) (digits-bytes digits (decimals.digits d v)))),
    )

-- ---- read

pub packed-digits : (s : FieldSpec) (n : ℕ) (v b : List ℕ) → IsPacked s n → Body s v b → (characters b ≡ v) × (length v ≡ 2 * n) × (list_all is_digit v ≡ true)
packed-digits s n v b is body =
    let size : length v ≡ 2 * n = eqb-true (length v) (2 * n) (rw (is.length, is.digits.pad, is.max) at body.0.length) in
    let stands = rw (is.digits.coding, is.digits.pad) at body.1 in
    (stands.2 ∙ even-any stands.0 v n size, size, all-digits v (rw is.digits.class at body.0.class))

pub packed-number : (n k : ℕ) (v : List ℕ) → length v ≡ 2 * n → list_all is_digit v ≡ true → k ≡ number v → Some k ≡ number_in (2 * n) (2 * n) v
packed-number n k v size all is =
    let least : nat_le (2 * n) (length v) ≡ true = le-leb _ _ (omega arith) in
    let most : nat_le (length v) (2 * n) ≡ true = le-leb _ _ (omega arith) in
    rw (least, most, all, is) refl
