-- Which values the rows of a host take.
use Rattle.std.proofs.Common.{◌≡◌, ℕ, ◌≤◌, Bool, true, false, ◌&&◌, List, [], ◌∷◌, length, Option, Some, None, refl, sym, ap, ◌∙◌, arith}
use Rattle.std.specs.Prelude.{nat_le, ◌==◌, if◌then◌else◌}
use Rattle.std.specs.List.{list_all}
use Rattle.std.proofs.lemmas.Bool.{and_parts, and_from, eqb-true}
use Rattle.std.proofs.lemmas.Bool.Decides.{nat_tests}
use Rattle.iso_parts.specs.declared.class.CharClass.{CharClass}
use Rattle.iso_parts.specs.declared.class.CharClass.TheVariants as classes
use Rattle.iso_parts.specs.declared.prefix.Length.{Length}
use Rattle.iso_parts.specs.declared.prefix.Length.TheVariants as lengths
use Rattle.iso_parts.specs.declared.padding.Pad.{Pad}
use Rattle.iso_parts.specs.declared.padding.Pad.TheVariants as pads
use Rattle.iso_parts.specs.declared.spec.FieldSpec.{FieldSpec}
use Rattle.iso_parts.specs.Class.{is_digit, is_member, is_in_class}
use Rattle.iso_parts.specs.PartLaws.{PartLaws}
use Rattle.iso_parts.specs.Spec.{is_exact, has_pad_end, Fits}
use Rattle.iso_table.specs.declared.host_ready.HostRow.{HostRow}
use Rattle.iso_table.specs.declared.host_ready.Shape.TheVariants.{Text, Amounts}
use Rattle.iso_table.specs.HostReady.{is_an, is_n_or_an, is_fixed, is_ll_or_lll, is_unpadded, is_shape, IsHostRow}
use Rattle.iso_wire.specs.Refusal.{refused_field, refused_by}
use Rattle.iso_order.specs.Order.{is_letter_or_digit}

-- ---- classes

pub list_all-more : (p q : ℕ → Bool) → ((b : ℕ) → p b ≡ true → q b ≡ true) → (v : List ℕ) → list_all p v ≡ true → list_all q v ≡ true
list_all-more p q more [] all = refl
list_all-more p q more (b ∷ v) all = let both = and_parts (p b) (list_all p v) all in and_from _ _ (more b both.0) (list_all-more p q more v both.1)

digit_an : (b : ℕ) → is_digit b ≡ true → is_member classes.AN b ≡ true
digit_an b h = grind (arith, nat_tests)

digit_ans : (b : ℕ) → is_digit b ≡ true → is_member classes.ANS b ≡ true
digit_ans b h = grind (arith, nat_tests)

code_an : (b : ℕ) → is_letter_or_digit b ≡ true → is_member classes.AN b ≡ true
code_an b h = grind (arith, nat_tests)

code_ans : (b : ℕ) → is_letter_or_digit b ≡ true → is_member classes.ANS b ≡ true
code_ans b h = grind (arith, nat_tests)

pub digit_code : (b : ℕ) → is_digit b ≡ true → is_letter_or_digit b ≡ true
digit_code b h = grind (arith, nat_tests)

pub digits_in : (c : CharClass) (v : List ℕ) → is_n_or_an c ≡ true → list_all is_digit v ≡ true → is_in_class c v ≡ true
digits_in c [] is all = refl
digits_in classes.N (b ∷ v) is all = all
digits_in classes.AN (b ∷ v) is all = list_all-more is_digit (is_member classes.AN) digit_an (b ∷ v) all
digits_in classes.ANS (b ∷ v) is all = list_all-more is_digit (is_member classes.ANS) digit_ans (b ∷ v) all
digits_in classes.A (b ∷ v) is all = absurd cc
digits_in classes.Z (b ∷ v) is all = absurd cc
digits_in classes.ZD (b ∷ v) is all = absurd cc
digits_in classes.XN (b ∷ v) is all = absurd cc
digits_in classes.B (b ∷ v) is all = absurd cc

pub codes_in : (c : CharClass) (v : List ℕ) → is_an c ≡ true → list_all is_letter_or_digit v ≡ true → is_in_class c v ≡ true
codes_in c [] is all = refl
codes_in classes.AN (b ∷ v) is all = list_all-more is_letter_or_digit (is_member classes.AN) code_an (b ∷ v) all
codes_in classes.ANS (b ∷ v) is all = list_all-more is_letter_or_digit (is_member classes.ANS) code_ans (b ∷ v) all
codes_in classes.N (b ∷ v) is all = absurd cc
codes_in classes.A (b ∷ v) is all = absurd cc
codes_in classes.Z (b ∷ v) is all = absurd cc
codes_in classes.ZD (b ∷ v) is all = absurd cc
codes_in classes.XN (b ∷ v) is all = absurd cc
codes_in classes.B (b ∷ v) is all = absurd cc

-- ---- lengths and pads

unpadded_end : (p : Pad) (v : List ℕ) → is_unpadded p ≡ true → has_pad_end p v ≡ false
unpadded_end pads.None v is = refl
unpadded_end (pads.Left p) v is = absurd cc
unpadded_end (pads.Right p) v is = absurd cc

pub length_by : (t : Bool) (n max : ℕ) → n ≡ max → (if t then n == max else nat_le n max) ≡ true
length_by true n max same = grind (arith, nat_tests)
length_by false n max same = grind (arith, nat_tests)

counted_by : (l : Length) (p : Pad) (n max : ℕ) → is_ll_or_lll l ≡ true → n ≤ max → (if is_exact l p then n == max else nat_le n max) ≡ true
counted_by (lengths.LL d) p n max is within = grind (arith, nat_tests)
counted_by (lengths.LLL d) p n max is within = grind (arith, nat_tests)
counted_by (lengths.LLLL d) p n max is within = absurd cc
counted_by lengths.Fixed p n max is within = absurd cc

-- ---- rows

-- so many digits fit a row of so many characters
pub digits_fit : (s : FieldSpec) (n : ℕ) (v : List ℕ) → is_shape (Text n) s ≡ true → length v ≡ n → list_all is_digit v ≡ true → Fits s v
digits_fit s n v shape size digits =
    let p = and_parts (is_n_or_an s.class && is_fixed s.length && (s.max == n)) (is_unpadded s.pad) shape in
    let q = and_parts (is_n_or_an s.class && is_fixed s.length) (s.max == n) p.0 in
    let class = (and_parts (is_n_or_an s.class) (is_fixed s.length) q.0).0 in
    record {
      length = length_by (is_exact s.length s.pad) (length v) s.max (size ∙ sym (eqb-true s.max n q.1));
      class = digits_in s.class v class digits;
      pad = unpadded_end s.pad v p.1;
    }

-- twenty letters or digits fit a row of amounts
pub amount_fits : (s : FieldSpec) (v : List ℕ) → is_shape Amounts s ≡ true → length v ≡ 20 → list_all is_letter_or_digit v ≡ true → Fits s v
amount_fits s v shape size codes =
    let p = and_parts (is_an s.class && is_ll_or_lll s.length && nat_le 20 s.max) (is_unpadded s.pad) shape in
    let q = and_parts (is_an s.class && is_ll_or_lll s.length) (nat_le 20 s.max) p.0 in
    let r = and_parts (is_an s.class) (is_ll_or_lll s.length) q.0 in
    let within : length v ≤ s.max = let room = q.1 in grind (arith, nat_tests) in
    record {
      length = counted_by s.length s.pad (length v) s.max r.1 within;
      class = codes_in s.class v r.0 codes;
      pad = unpadded_end s.pad v p.1;
    }

-- a needed row refuses no value that fits each row of its shape
pub row_taken : PartLaws → (h : HostRow) (r : Option FieldSpec) (v : List ℕ) → h.needed ≡ true → IsHostRow h r → ((s : FieldSpec) → is_shape h.shape s ≡ true → Fits s v) → refused_by r h.number v ≡ None
row_taken laws h None v needed row fits = absurd (let both : true ≡ false = sym needed ∙ row in cc)
row_taken laws h (Some s) v needed row fits = ap (refused_field h.number) ((laws.fits s v).0 (fits s row))
