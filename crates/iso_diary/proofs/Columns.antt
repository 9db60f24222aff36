-- Columns of a record, one behind another.
use Rattle.std.proofs.Common.{◌≡◌, ◌∙◌, ◌<◌, ℕ, ◌+◌, ◌*◌, ◌/◌, ◌%◌, ◌^◌, true, List, ◌++◌, length, drop, length-append, append_assoc, refl, sym, ap, arith}
use Rattle.std.specs.Prelude.{Option, Some, nat_lt}
use Rattle.std.specs.List.{list_all}
use Rattle.std.proofs.lemmas.List.{drop_at, drop-drop}
use Rattle.std.proofs.lemmas.List.Folds.{list_all-append}
use Rattle.std.proofs.lemmas.Bool.{and_from}
use Rattle.std.proofs.lemmas.Bool.Decides.{nat_tests}
use Rattle.iso_wire.specs.Decimal.{decimal}
use Rattle.iso_wire.specs.DecimalLaws.{DecimalLaws}
use Rattle.iso_log.specs.Slots.{is_nonzero}
use Rattle.iso_record.specs.Key.{number_at}
use Rattle.iso_record.specs.ColumnLaws.{ColumnLaws}
use Rattle.iso_diary.specs.Line.{below, long_at, long_by, long_digits}

-- ---- digits

pub length-long : DecimalLaws → (v : ℕ) → length (long_digits v) ≡ 20
length-long decimals v = length-append (decimal 10 (v / 10 ^ 10)) (decimal 10 (v % 10 ^ 10)) ∙ omega (arith, decimals.size 10 (v / 10 ^ 10), decimals.size 10 (v % 10 ^ 10))

-- ---- bytes that aren't zero

pub nonzero_both : (xs ys : List ℕ) → list_all is_nonzero xs ≡ true → list_all is_nonzero ys ≡ true → list_all is_nonzero (xs ++ ys) ≡ true
nonzero_both xs ys a b = list_all-append is_nonzero xs ys ∙ and_from _ _ a b

-- ---- columns

-- what stands behind a column
pub next : (text : List ℕ) (at n to : ℕ) (front rest : List ℕ) → drop at text ≡ front ++ rest → length front ≡ n → at + n ≡ to → drop to text ≡ rest
next text at n to front rest is long sum =
    ap (λ m. drop m text) (sym sum) ∙ sym (drop-drop n at text) ∙ ap (drop n) is ∙ drop_at front rest n long

pub below_is : (most v : ℕ) → v < most → below most (Some v) ≡ Some v
below_is most v lt = let is : nat_lt v most ≡ true = grind (arith, nat_tests, lt) in rw is refl

-- the number of a column of twenty digits
pub long_read : DecimalLaws → ColumnLaws → (text : List ℕ) (at v : ℕ) (rest : List ℕ) → drop at text ≡ long_digits v ++ rest → v < 2 ^ 64 → long_at text at ≡ Some v
long_read decimals columns text at v rest is lt =
    let front = v / 10 ^ 10 in
    let back = v % 10 ^ 10 in
    let flat : drop at text ≡ decimal 10 front ++ (decimal 10 back ++ rest) = is ∙ append_assoc (decimal 10 front) (decimal 10 back) rest in
    let one : number_at text at 10 ≡ Some front = columns.read text at 10 front (decimal 10 back ++ rest) flat (omega (arith, lt)) in
    let two : number_at text (at + 10) 10 ≡ Some back =
    columns.read text (at + 10) 10 back rest (next text at 10 (at + 10) (decimal 10 front) (decimal 10 back ++ rest) flat (decimals.size 10 front) refl) (omega arith) in
    let same : front * 10 ^ 10 + back ≡ v = omega arith in
    ap (λ (x : Option ℕ). long_by x (number_at text (at + 10) 10)) one ∙ ap (long_by (Some front)) two
    ∙ ap (λ n. below (2 ^ 64) (Some n)) same ∙ below_is (2 ^ 64) v lt
