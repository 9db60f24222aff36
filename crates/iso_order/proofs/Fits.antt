-- Under a table that is ready for a host every response fits the table.
use Rattle.std.proofs.Common.{◌≡◌, ℕ, ◌/◌, ◌%◌, ◌≤◌, Bool, true, false, List, [], ◌∷◌, ◌++◌, length, length-append, Option, Some, None, refl, sym, ap, subst, ◌∙◌, arith}
use Rattle.std.specs.Prelude.{ℤ, pos, int_lt, nat_le, unsigned_abs, ◌==◌, if◌then◌else◌, IfSome, option_map}
use Rattle.std.specs.List.{list_all}
use Rattle.std.proofs.lemmas.Bool.{and_parts, and_from, eqb-true, eq-eqb}
use Rattle.std.proofs.lemmas.Bool.Decides.{nat_tests}
use Rattle.std.proofs.lemmas.List.Folds.{list_all-append}
use Rattle.iso_parts.specs.declared.spec.FieldSpec.{FieldSpec}
use Rattle.iso_parts.specs.Class.{is_digit}
use Rattle.iso_parts.specs.PartLaws.{PartLaws}
use Rattle.iso_table.specs.declared.host_ready.Shape.TheVariants.{Text, Amounts}
use Rattle.iso_table.specs.HostReady.{host_row, IsHostReady}
use Rattle.iso_table.specs.Layout.{Layout, row_at}
use Rattle.iso_wire.specs.Contents.{Contents}
use Rattle.iso_wire.specs.Decimal.{decimal}
use Rattle.iso_wire.specs.DecimalLaws.{DecimalLaws}
use Rattle.iso_wire.specs.Elements.{value_in}
use Rattle.iso_wire.specs.Refusal.{refused_field, refused_by, first_refusal, message_refusal}
use Rattle.iso_wire.specs.Spelling.{PartAs, Parts}
use Rattle.iso_order.specs.Fields.{text}
use Rattle.iso_parts.specs.Mti.{is_answered}
use Rattle.iso_order.specs.Fitting.{IsAskedUnder, ResponsesFit}
use Rattle.iso_order.specs.Listing.{element_where}
use Rattle.iso_order.specs.Adding.{elements_with_value}
use Rattle.iso_order.specs.Order.{is_letter_or_digit}
use Rattle.iso_order.specs.Outcome.{Outcome}
use Rattle.iso_order.specs.Response.{response_mti, is_echoed, is_approved, approval, sign, additional, balance, element, is_balance_inquiry, is_showable}
use Rattle.iso_order.specs.Verdict.{verdict}
use Rattle.iso_order.proofs.Ascending.{response-listed}
use Rattle.iso_order.proofs.Rows.{list_all-more, digit_code, digits_fit, amount_fits, row_taken}
use Rattle.iso_order.proofs.Shown.{balance_inquiry-currency, shown-currency}

-- the table doesn't refuse the value as element n
abbrev pub IsTaken : List (Option FieldSpec) → ℕ → List ℕ → Type 0
IsTaken rows n v = refused_by (row_at rows n) n v ≡ None

abbrev pub Values : Type 0
Values = List (ℕ × List ℕ)

-- ---- the type

-- a function of 0 or 2 has no carry
pub version_kept : (mti : ℕ) → is_answered (mti / 10 % 10) ≡ true → response_mti mti / 1000 ≡ mti / 1000
version_kept mti h =
    let small : mti / 10 % 10 ≤ 2 = grind (arith, nat_tests) in
    omega arith

-- ---- an echo

part_taken : PartLaws → (rows : List (Option FieldSpec)) (n : ℕ) (v b : List ℕ) → PartAs rows n v b → IsTaken rows n v
part_taken laws rows n v b part = ap (λ (r : Option FieldSpec). refused_by r n v) part.1 ∙ ap (refused_field n) ((laws.fits part.0 v).0 part.2.1.0)

pub value_by : (t : Bool) (v : List ℕ) (o : Option (List ℕ)) (P : List ℕ → Type 0) → (t ≡ true → P v) → IfSome o P → IfSome (if t then Some v else o) P
value_by true v o P here rest = here refl
value_by false v o P here rest = rest

-- what is read under a table isn't refused by it
pub value_taken : PartLaws → (rows : List (Option FieldSpec)) (es : Values) (b : List ℕ) → Parts rows es b → (n : ℕ) → IfSome (value_in es n) (IsTaken rows n)
value_taken laws rows [] b parts n = tt
value_taken laws rows (e ∷ es) b parts n =
    let here : (e.0 == n) ≡ true → IsTaken rows n e.1 = λ is. subst (λ (k : ℕ). IsTaken rows k e.1) (eqb-true e.0 n is) (part_taken laws rows e.0 e.1 parts.0 parts.2) in
    value_by (e.0 == n) e.1 (value_in es n) (IsTaken rows n) here (value_taken laws rows es parts.1 parts.3 n)

-- ---- the response code, the approval and the balance

pub approval_by : (t : Bool) (v : List ℕ) (P : List ℕ → Type 0) → P v → IfSome (if t then Some v else None) P
approval_by true v P here = here
approval_by false v P here = tt

approval_taken : PartLaws → DecimalLaws → (t : Layout) (m : Contents) (a : Outcome) → IsHostReady t → IfSome (approval m a) (IsTaken t.rows 38)
approval_taken laws decimals t m a ready =
    approval_by (is_approved m a) (decimal 6 a.seq) (IsTaken t.rows 38)
    (row_taken laws (host_row 38 true (Text 6)) (row_at t.rows 38) (decimal 6 a.seq) refl ready.rows.1.1.1.1.1.1.1.1.1.1.0
    (λ s shape. digits_fit s 6 (decimal 6 a.seq) shape (decimals.size 6 a.seq) (decimals.digits 6 a.seq)))

code_taken : PartLaws → DecimalLaws → (t : Layout) (a : Outcome) → IsHostReady t → IsTaken t.rows 39 (decimal 2 a.code)
code_taken laws decimals t a ready =
    row_taken laws (host_row 39 true (Text 2)) (row_at t.rows 39) (decimal 2 a.code) refl ready.rows.1.1.1.1.1.1.1.1.1.1.1.0
    (λ s shape. digits_fit s 2 (decimal 2 a.code) shape (decimals.size 2 a.code) (decimals.digits 2 a.code))

sign_by : (t : Bool) → is_letter_or_digit (if t then 68 else 67) ≡ true
sign_by true = refl
sign_by false = refl

additional-codes : DecimalLaws → (currency : List ℕ) (z : ℤ) → list_all is_letter_or_digit currency ≡ true → list_all is_letter_or_digit (additional currency z) ≡ true
additional-codes decimals currency z codes =
    let digits = decimal 12 (unsigned_abs z) in
    let amount = list_all-more is_digit is_letter_or_digit digit_code digits (decimals.digits 12 (unsigned_abs z)) in
    list_all-append is_letter_or_digit currency (sign z ∷ digits)
    ∙ and_from _ _ codes (and_from _ _ (sign_by (int_lt z (pos 0))) amount)

-- an additional amount has twenty characters
pub length-additional : DecimalLaws → (currency : List ℕ) (z : ℤ) → length currency ≡ 3 → length (additional currency z) ≡ 20
length-additional decimals currency z three =
    let digits = decimal 12 (unsigned_abs z) in
    let twelve = decimals.size 12 (unsigned_abs z) in
    omega (arith, length-append currency (sign z ∷ digits))

pub balance_by : (m : Contents) (s : Option ℤ) (P : List ℕ → Type 0) → is_showable m s ≡ true → ((z : ℤ) → is_showable m (Some z) ≡ true → P (additional (text m 49) z)) → IfSome (option_map (additional (text m 49)) s) P
balance_by m None P shown each = tt
balance_by m (Some z) P shown each = each z shown

shown_codes : (m : Contents) (z : ℤ) → is_showable m (Some z) ≡ true → list_all is_letter_or_digit (text m 49) ≡ true
shown_codes m z shown =
    let asked = (and_parts (nat_le (unsigned_abs z) 999999999999) (is_balance_inquiry (verdict m)) shown).1 in
    (and_parts (length (text m 49) == 3) (list_all is_letter_or_digit (text m 49)) (balance_inquiry-currency m asked)).1

balance_taken : PartLaws → DecimalLaws → (t : Layout) (m : Contents) (a : Outcome) → IsHostReady t → is_showable m a.shown ≡ true → IfSome (balance m a) (IsTaken t.rows 54)
balance_taken laws decimals t m a ready shown =
    balance_by m a.shown (IsTaken t.rows 54) shown
    (λ z some. row_taken laws (host_row 54 true Amounts) (row_at t.rows 54) (additional (text m 49) z) refl ready.rows.1.1.1.1.1.1.1.1.1.1.1.1.1.1.1.0
    (λ s shape. amount_fits s (additional (text m 49) z) shape (length-additional decimals (text m 49) z (shown-currency m (Some z) z refl some)) (additional-codes decimals (text m 49) z (shown_codes m z some))))

-- ---- each element

pub element_by : (is38 is39 is54 echoed : Bool) (x y z v : Option (List ℕ)) (P : List ℕ → Type 0) → (is38 ≡ true → IfSome x P) → (is39 ≡ true → IfSome y P) → (is54 ≡ true → IfSome z P) → IfSome v P
    → IfSome (if is38 then x else if is39 then y else if is54 then z else if echoed then v else None) P
element_by true is39 is54 echoed x y z v P a b c d = a refl
element_by false true is54 echoed x y z v P a b c d = b refl
element_by false false true echoed x y z v P a b c d = c refl
element_by false false false true x y z v P a b c d = d
element_by false false false false x y z v P a b c d = tt

-- an element of a response isn't refused
pub element_taken : PartLaws → DecimalLaws → (t : Layout) (m : Contents) (a : Outcome) → IsAskedUnder t m a → (n : ℕ) → IfSome (element m a n) (IsTaken t.rows n)
element_taken laws decimals t m a s n =
    let at = λ (k : ℕ) (v : Option (List ℕ)) (here : IfSome v (IsTaken t.rows k)) (is : (n == k) ≡ true). subst (λ (j : ℕ). IfSome v (IsTaken t.rows j)) (sym (eqb-true n k is)) here in
    element_by (n == 38) (n == 39) (n == 54) (is_echoed n) (approval m a) (Some (decimal 2 a.code)) (balance m a) (value_in m.elements n) (IsTaken t.rows n)
    (at 38 (approval m a) (approval_taken laws decimals t m a s.ready))
    (at 39 (Some (decimal 2 a.code)) (code_taken laws decimals t a s.ready))
    (at 54 (balance m a) (balance_taken laws decimals t m a s.ready s.shown))
    (value_taken laws t.rows m.elements s.read.parts s.read.elements n)

-- ---- the response

refused-where : (rows : List (Option FieldSpec)) (n : ℕ) (v : Option (List ℕ)) (es : Values) → IfSome v (IsTaken rows n) → first_refusal rows es ≡ None → first_refusal rows (element_where n v ++ es) ≡ None
refused-where rows n (Some v) es here rest = rw here rest
refused-where rows n None es here rest = rest

pub refused-at : (rows : List (Option FieldSpec)) (value : ℕ → Option (List ℕ)) (ns : List ℕ) → ((n : ℕ) → IfSome (value n) (IsTaken rows n)) → first_refusal rows (elements_with_value value ns) ≡ None
refused-at rows value [] each = refl
refused-at rows value (n ∷ ns) each = refused-where rows n (value n) (elements_with_value value ns) (each n) (refused-at rows value ns each)

pub responses_fit_lem : PartLaws → DecimalLaws → ResponsesFit
responses_fit_lem laws decimals t m a s answered =
    let value = element m a in
    let numbers : List ℕ = 2 ∷ 3 ∷ 4 ∷ 7 ∷ 11 ∷ 12 ∷ 13 ∷ 32 ∷ 33 ∷ 37 ∷ 38 ∷ 39 ∷ 41 ∷ 42 ∷ 49 ∷ 54 ∷ 70 ∷ 90 ∷ [] in
    let same : (response_mti m.mti / 1000 == t.version) ≡ true = eq-eqb (response_mti m.mti / 1000) t.version (version_kept m.mti answered ∙ s.read.version) in
    ap (message_refusal t) (response-listed m a) ∙ rw same (refused-at t.rows value numbers (element_taken laws decimals t m a s))
