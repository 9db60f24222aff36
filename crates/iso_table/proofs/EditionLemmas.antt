-- The built-in tables have good rows, of elements alone.
use Rattle.std.proofs.Common.{◌≡◌, ℕ, ◌+◌, ◌<◌, ◌≤◌, Bool, true, false, cond, IsTrue, nat_le, eqb, List, [], ◌∷◌, length, Option, Some, None, refl, sym, ap, subst, ◌∙◌, arith, inl, inr, find, option_map}
use Rattle.std.specs.Prelude.{◌&&◌, ◌||◌, slice_set}
use Rattle.std.specs.List.{list_all}
use Rattle.std.specs.Option.{option_flatten}
use Rattle.std.proofs.lemmas.Bool.{cases_eq, cases_lt}
use Rattle.std.proofs.lemmas.Bool.Decides.{nat_tests}
use Rattle.std.proofs.lemmas.Option.{slice_get_past}
use Rattle.iso_parts.specs.Numbers.{is_element}
use Rattle.iso_parts.specs.declared.class.CharClass.{CharClass}
use Rattle.iso_parts.specs.declared.class.CharClass.TheVariants.{N, B}
use Rattle.iso_parts.specs.declared.encoding.Coding.TheVariants as codings
use Rattle.iso_parts.specs.declared.digits.Digits.{Digits}
use Rattle.iso_parts.specs.declared.digits.Digits.TheVariants as digits
use Rattle.iso_parts.specs.declared.padding.Pad.{Pad}
use Rattle.iso_parts.specs.declared.padding.Pad.TheVariants as pads
use Rattle.iso_parts.specs.declared.spec.FieldSpec.{FieldSpec}
use Rattle.iso_parts.specs.Spec.{IsGood, is_good_max, is_coded, is_padded, is_pad_byte, is_good_pad}
use Rattle.iso_table.specs.declared.edition87.LengthKind.{LengthKind}
use Rattle.iso_table.specs.declared.edition87.LengthKind.TheVariants.{Fixed, LL, LLL}
use Rattle.iso_table.specs.declared.edition87.EditionLine.{EditionLine}
use Rattle.iso_table.specs.Layout.{Layout, IsAccepted, row_at}
use Rattle.iso_table.specs.Edition87.{lines, has_number, length_of, coding_of, spec_of, row87}
use Rattle.iso_table.proofs.RowLemmas.{row_at-set_same, row_at-set_other}

-- ---- the codings go with the classes

coded_by : (t : Bool) → is_coded (cond t codings.Raw codings.HexText) B ≡ true
coded_by true = refl
coded_by false = refl

coded : (d : Digits) (n : ℕ) (c : CharClass) → is_coded (coding_of d n c) c ≡ true
coded digits.Ascii n B = coded_by (eqb n 55)
coded digits.Ascii n c = refl
coded digits.Bcd n N = refl
coded digits.Bcd n B = refl
coded digits.Bcd n c = refl

-- whether a class takes a pad is the same at each element
same_pad : (d : Digits) (n : ℕ) (c : CharClass) (k : LengthKind) (q : ℕ) → (is_padded c (length_of k d) && is_pad_byte (coding_of d n c) q) ≡ (is_padded c (length_of k d) && is_pad_byte (coding_of d 0 c) q)
same_pad d n B Fixed q = refl
same_pad d n B LL q = refl
same_pad d n B LLL q = refl
same_pad digits.Ascii n c k q = refl
same_pad digits.Bcd n c k q = refl

padded_same : (d : Digits) (n : ℕ) (g : EditionLine) (p : Pad) → is_good_pad (spec_of d n g) p ≡ is_good_pad (spec_of d 0 g) p
padded_same d n g pads.None = refl
padded_same d n g (pads.Left q) = same_pad d n g.class g.kind q
padded_same d n g (pads.Right q) = same_pad d n g.class g.kind q

-- ---- each line

is_element_line : EditionLine → Bool
is_element_line g = (nat_le 2 g.first && nat_le g.last 64) || (nat_le 66 g.first && nat_le g.last 128)

is_good_line : Digits → EditionLine → Bool
is_good_line d g = is_element_line g && (is_good_max (spec_of d 0 g) && is_good_pad (spec_of d 0 g) g.pad)

good_lines : (d : Digits) → list_all (is_good_line d) lines ≡ true
unfolding is_good_line is_element_line
good_lines digits.Ascii = refl
good_lines digits.Bcd = refl

both : (a b : Bool) → (a && b) ≡ true → (a ≡ true) × (b ≡ true)
both true b h = (refl, h)
both false b h = absurd (cc)

found_by : (a b : Bool) (p q : EditionLine → Bool) (x g : EditionLine) (xs : List EditionLine) → p x ≡ a → q x ≡ b → cond a (Some x) (find p xs) ≡ Some g → (b && list_all q xs) ≡ true
    → (find p xs ≡ Some g → list_all q xs ≡ true → (p g ≡ true) × (q g ≡ true)) → (p g ≡ true) × (q g ≡ true)
found_by true true p q x g xs here good h k rest =
    let is : x ≡ g = (cc) in
    (sym (ap p is) ∙ here, sym (ap q is) ∙ good)
found_by true false p q x g xs here good h k rest = absurd (cc)
found_by false true p q x g xs here good h k rest = rest h k
found_by false false p q x g xs here good h k rest = absurd (cc)

-- what is found passes each test that all pass
found : (p q : EditionLine → Bool) (xs : List EditionLine) (g : EditionLine) → find p xs ≡ Some g → list_all q xs ≡ true → (p g ≡ true) × (q g ≡ true)
found p q [] g h k = absurd (cc)
found p q (x ∷ xs) g h k = found_by (p x) (q x) p q x g xs refl refl h k (λ h k. found p q xs g h k)

element_by : (n first last : ℕ) → (nat_le first n && nat_le n last) ≡ true → ((nat_le 2 first && nat_le last 64) || (nat_le 66 first && nat_le last 128)) ≡ true → IsTrue (is_element n)
element_by n first last h k = grind (arith, nat_tests)

good_by : (d : Digits) (n : ℕ) (g : EditionLine) → has_number n g ≡ true → is_good_line d g ≡ true → IsTrue (is_element n) × IsGood (spec_of d n g)
unfolding is_good_line is_element_line
good_by d n g has good =
    let parts = both (is_element_line g) _ good in
    let more = both (is_good_max (spec_of d 0 g)) _ parts.1 in
    (element_by n g.first g.last has parts.0, record { max = more.0; coding = coded d n g.class; pad = padded_same d n g g.pad ∙ more.1 })

row_by : (d : Digits) (n : ℕ) (s : FieldSpec) (o : Option EditionLine) → find (has_number n) lines ≡ o → option_map (spec_of d n) o ≡ Some s → IsTrue (is_element n) × IsGood s
row_by d n s None e h = absurd (cc)
row_by d n s (Some g) e h =
    let is = found (has_number n) (is_good_line d) lines g e (good_lines d) in
    let good = good_by d n g is.0 is.1 in
    let same : spec_of d n g ≡ s = (cc) in
    (good.0, subst (λ (t : FieldSpec). IsGood t) same good.1)

pub row87-good : (d : Digits) (n : ℕ) (s : FieldSpec) → row87 d n ≡ Some s → IsTrue (is_element n) × IsGood s
row87-good d n s h = row_by d n s (find (has_number n) lines) refl h

element_low : (n : ℕ) → IsTrue (is_element n) → n < 129
element_low n h = grind (arith, nat_tests)

past_by : (d : Digits) (n : ℕ) (o : Option FieldSpec) → 129 ≤ n → row87 d n ≡ o → o ≡ None
past_by d n None h e = refl
past_by d n (Some s) h e = let low = element_low n (row87-good d n s e).0 in absurd (omega arith)

-- ---- the loop

pub one_more : (d : Digits) (old : List (Option FieldSpec)) (i : ℕ) → i < 129 → length old ≡ 129 → ((n : ℕ) → n < i → row_at old n ≡ row87 d n) → (n : ℕ) → n < i + 1 → row_at (slice_set old i (row87 d i)) n ≡ row87 d n
one_more d old i low size so_far n h =
    elim (cases_eq i n) [
      | inl same ↦ subst (λ (k : ℕ). row_at (slice_set old i (row87 d i)) k ≡ row87 d k) same (row_at-set_same old i (row87 d i) (omega arith))
      | inr other ↦ row_at-set_other old i n (row87 d i) other ∙ so_far n (omega arith)
    ]

pub all_rows : (d : Digits) (places : List (Option FieldSpec)) → length places ≡ 129 → ((n : ℕ) → n < 129 → row_at places n ≡ row87 d n) → (n : ℕ) → row_at places n ≡ row87 d n
all_rows d places size rows n =
    elim (cases_lt n 129) [
      | inl low ↦ rows n low
      | inr high ↦ ap option_flatten (slice_get_past places n (omega arith)) ∙ sym (past_by d n (row87 d n) (omega arith) refl)
    ]

-- the rows of the edition stand at the numbers of elements
pub at_elements87 : (places : List (Option FieldSpec)) (d : Digits) → ((n : ℕ) → row_at places n ≡ row87 d n) → (n : ℕ) (s : FieldSpec) → row_at places n ≡ Some s → IsTrue (is_element n)
at_elements87 places d rows n s e = (row87-good d n s (sym (rows n) ∙ e)).0

pub edition_made : (t : Layout) (d : Digits) → t.version ≡ 0 → length t.rows ≡ 129 → ((n : ℕ) → row_at t.rows n ≡ row87 d n) → IsAccepted t
edition_made t d version size rows = record {
  version = rw version refl;
  places = size;
  numbers = λ n s e. (row87-good d n s (sym (rows n) ∙ e)).0;
  good = λ n s e. (row87-good d n s (sym (rows n) ∙ e)).1;
}
