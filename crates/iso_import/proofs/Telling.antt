-- What fields tell, one after the other.
use Rattle.std.proofs.Common.{◌≡◌, ◌∙◌, ◌<◌, ◌+◌, ◌^◌, arith, ◌==◌, ◌&&◌, ◌||◌, ℕ, suc, Bool, true, false, List, [], ◌∷◌, ◌++◌, length, Option, Some, None, Result, Ok, Err, OnOk, IfErr, is_ok, sym, ap, subst, refl, true≢false, nat_lt, lt-ltb, ltb-true, eqb-true, is_none, is_some, IsTrue, if◌then◌else◌}
use Rattle.std.specs.Option.{option_or}
use Rattle.std.specs.Char.{is_digit}
use Rattle.std.specs.Str.Parse.{AllDigits, IsNumeral, digits_value, without_leading_plus}
use Rattle.serde_json.specs.Data.{Data}
use Rattle.iso_parts.specs.Numbers.{is_element}
use Rattle.iso_parts.specs.Spec.{spec_fault}
use Rattle.iso_parts.specs.declared.spec.FieldSpec.{FieldSpec}
use Rattle.iso_parts.specs.declared.spec.SpecFault.{SpecFault}
use Rattle.iso_table.specs.declared.draft.Row.{Row}
use Rattle.iso_table.specs.Accepted.{row_of}
use Rattle.iso_import.specs.Fields.{bitmap_coded, mti_coded}
use Rattle.iso_import.specs.Found.{has_number, with_row, Found, TakesFront}
use Rattle.iso_import.specs.Told.{are_digits, bitmap_told, good_row, good_row_in, mti_told, number_in, number_of, row_told}
use Rattle.iso_import.specs.Step.{TakesField}

-- ---- the number that a key writes

digits-all : (ds : List ℕ) → AllDigits 10 ds → are_digits ds ≡ true
digits-all [] all = refl
digits-all (d ∷ ds) all = rw (lt-ltb _ _ all.0) (digits-all ds all.1)

both : (a b : Bool) → (a && b) ≡ true → (a ≡ true) × (b ≡ true)
both true b is = (refl, is)
both false b is = absurd (cc)

all-digits : (ds : List ℕ) → are_digits ds ≡ true → AllDigits 10 ds
all-digits [] are = tt
all-digits (d ∷ ds) are =
    let parts = both (is_digit d 10) (are_digits ds) are in (ltb-true _ _ parts.0, all-digits ds parts.1)

-- digits that write a number, and no others
written : (ds : List ℕ) → IsNumeral 10 ds → digits_value 10 ds < 2 ^ 16 → number_of ds ≡ Some (digits_value 10 ds)
written ds numeral most = rw (lt-ltb _ _ numeral.0) (rw (digits-all ds numeral.1) (rw (lt-ltb _ _ most) refl))

unwritten : (ds : List ℕ) → (IsNumeral 10 ds × (digits_value 10 ds < 2 ^ 16) → ⊥) → number_of ds ≡ None
unwritten ds not = by (nat_lt 0 (length ds)) (are_digits ds) (nat_lt (digits_value 10 ds) (2 ^ 16)) refl refl refl where
  by : (some are most : Bool) → nat_lt 0 (length ds) ≡ some → are_digits ds ≡ are → nat_lt (digits_value 10 ds) (2 ^ 16) ≡ most
      → (if some && are && most then Some (digits_value 10 ds) else None) ≡ None
  by false are most is-some is-are is-most = refl
  by true false most is-some is-are is-most = refl
  by true true false is-some is-are is-most = refl
  by true true true is-some is-are is-most = absurd (not ((ltb-true _ _ is-some, all-digits ds is-are), ltb-true _ _ is-most))

pub number-read : (key : List ℕ) (number : ℕ)
    → (IsNumeral 10 (without_leading_plus key) × (digits_value 10 (without_leading_plus key) < 2 ^ 16)) × (number ≡ digits_value 10 (without_leading_plus key))
    → number_in key ≡ Some number
number-read key number read = written (without_leading_plus key) read.0.0 read.0.1 ∙ ap (λ n. Some n) (sym read.1)

pub no-number-read : (key : List ℕ)
    → (IsNumeral 10 (without_leading_plus key) × (digits_value 10 (without_leading_plus key) < 2 ^ 16) → ⊥) → number_in key ≡ None
no-number-read key none = unwritten (without_leading_plus key) none

-- ---- a good row

-- a row with something wrong is no good one
pub no-good-row : {A : Type 0} → (spec : FieldSpec) (r : Result A SpecFault) → is_ok r ≡ false → IfErr r (λ e. spec_fault spec ≡ Some e)
    → good_row spec ≡ None
no-good-row spec (Ok a) is-not fault = absurd (true≢false is-not)
no-good-row spec (Err e) is-not fault = rw fault refl

-- ---- rows by their numbers

or-none : {A : Type 0} → (o : Option A) → option_or o None ≡ o
or-none None = refl
or-none (Some a) = refl

-- one more row stands behind the others
row-behind : (rows : List Row) (r : Row) (n : ℕ)
    → row_of (rows ++ r ∷ []) n ≡ option_or (row_of rows n) (if r.number == n then Some r.spec else None)
row-behind [] r n = refl
row-behind (q ∷ qs) r n = by (q.number == n) (row-behind qs r n) where
  by : (is : Bool) → row_of (qs ++ r ∷ []) n ≡ option_or (row_of qs n) (if r.number == n then Some r.spec else None)
      → (if is then Some q.spec else row_of (qs ++ r ∷ []) n)
      ≡ option_or (if is then Some q.spec else row_of qs n) (if r.number == n then Some r.spec else None)
  by true rest = refl
  by false rest = rest

-- where a row has the number, another one changes nothing
row-first : (rows : List Row) (n : ℕ) (o : Option FieldSpec) → has_number rows n ≡ true → option_or (row_of rows n) o ≡ row_of rows n
row-first [] n o has = absurd (cc)
row-first (q ∷ qs) n o has = by (q.number == n) has (row-first qs n o) where
  by : (is : Bool) → (is || has_number qs n) ≡ true → (has_number qs n ≡ true → option_or (row_of qs n) o ≡ row_of qs n)
      → option_or (if is then Some q.spec else row_of qs n) o ≡ (if is then Some q.spec else row_of qs n)
  by true has rest = refl
  by false has rest = rest has

-- a number that says how the type or the bitmaps are written is no element's
no-element : (number : ℕ) (field : Data) → (is_some (mti_coded number field) || is_some (bitmap_coded number field)) ≡ true
    → is_element number ≡ false
no-element number field front = by (number == 0) (number == 1) refl refl where
  by : (first second : Bool) → (number == 0) ≡ first → (number == 1) ≡ second → is_element number ≡ false
  by true second is-first is-second = ap is_element (eqb-true number 0 is-first)
  by false true is-first is-second = ap is_element (eqb-true number 1 is-second)
  by false false is-first is-second = absurd (true≢false (sym front ∙ rw is-first (rw is-second refl)))

-- what is newly taken was told
told-new : (m b n o : Bool) → ((m && n) || (b && o)) ≡ true → (n || o) ≡ true
told-new m b true o is = refl
told-new m true false o is = by m is where
  by : (m : Bool) → ((m && false) || o) ≡ true → o ≡ true
  by true is = is
  by false is = is
told-new true false false o is = absurd (true≢false (sym is))
told-new false false false o is = absurd (true≢false (sym is))

pub on-ok : {A E : Type 0} {P : Type 0} → (r : Result A E) → P → OnOk r P
on-ok (Ok a) p = p
on-ok (Err e) p = tt

pub on-ok-as : {A E : Type 0} {P Q : Type 0} → (r : Result A E) → (P → Q) → OnOk r P → OnOk r Q
on-ok-as (Ok a) turn p = turn p
on-ok-as (Err e) turn p = tt

-- ---- a field taken

module _ (key : List ℕ) (field : Data) where
  -- a key that writes no number
  pub no-number : (f : Found) → number_in key ≡ None → TakesField key field f f
  no-number f is = record {
    mti = rw is (sym (or-none f.mti));
    bitmap = rw is (sym (or-none f.bitmap));
    rows = λ n element. rw is (sym (or-none (row_of f.rows n)));
  }

  module _ (number : ℕ) (is : number_in key ≡ Some number) (old mid : Found) (taken : Bool)
      (front : TakesFront old mid (mti_coded number field) (bitmap_coded number field) taken) where
    -- how the type and the bitmaps are written is as the field says
    mti-is : mid.mti ≡ option_or old.mti (mti_told key field)
    mti-is = rw is front.mti

    bitmap-is : mid.bitmap ≡ option_or old.bitmap (bitmap_told key field)
    bitmap-is = rw is front.bitmap

    -- such a field tells no row
    pub front-taken : taken ≡ true → TakesField key field old mid
    front-taken is-new = record {
      mti = mti-is;
      bitmap = bitmap-is;
      rows = λ n element. ap (λ rs. row_of rs n) front.rows ∙ sym (ap (option_or (row_of old.rows n)) (none n element (number == n) refl) ∙ or-none (row_of old.rows n));
    } where
      none : (n : ℕ) → IsTrue (is_element n) → (same : Bool) → (number == n) ≡ same → row_told n key field ≡ None
      none n element false differs = rw is (rw differs refl)
      none n element true same =
          let said = told-new (is_none old.mti) (is_none old.bitmap) (is_some (mti_coded number field)) (is_some (bitmap_coded number field)) (sym front.taken ∙ is-new) in
          absurd (cc (no-element number field said, element, eqb-true number n same))

    -- a row that isn't free, or isn't good, changes nothing
    pub left-out : (IsTrue (is_element number) → has_number mid.rows number ≡ false → good_row_in field ≡ None) → TakesField key field old mid
    left-out none = record {
      mti = mti-is;
      bitmap = bitmap-is;
      rows = λ n element. ap (λ rs. row_of rs n) front.rows ∙ sym (kept n element (number == n) (has_number old.rows n) refl refl);
    } where
      kept : (n : ℕ) → IsTrue (is_element n) → (same has : Bool) → (number == n) ≡ same → has_number old.rows n ≡ has
          → option_or (row_of old.rows n) (row_told n key field) ≡ row_of old.rows n
      kept n element false has differs is-has = rw is (rw differs (or-none (row_of old.rows n)))
      kept n element true true same is-has = row-first old.rows n (row_told n key field) is-has
      kept n element true false same is-has =
          let equal = eqb-true number n same in
          let good = none (subst (λ k. IsTrue (is_element k)) (sym equal) element)
          (ap (λ rs. has_number rs number) front.rows ∙ ap (has_number old.rows) equal ∙ is-has) in
          rw is (rw same (rw good (or-none (row_of old.rows n))))

    -- a row that is free joins the others
    pub row-joined : (spec : FieldSpec) → good_row_in field ≡ Some spec → TakesField key field old (record mid { rows = with_row mid.rows number spec })
    row-joined spec good = record {
      mti = mti-is;
      bitmap = bitmap-is;
      rows = λ n element. row-behind mid.rows (record { number = number; spec = spec }) n
          ∙ ap (λ rs. option_or (row_of rs n) (if number == n then Some spec else None)) front.rows
          ∙ ap (option_or (row_of old.rows n)) (sym (as-told n));
    } where
      as-told : (n : ℕ) → row_told n key field ≡ (if number == n then Some spec else None)
      as-told n = rw is (rw good refl)

-- ---- one field after the other

or-assoc : {A : Type 0} → (a b c : Option A) → option_or (option_or a b) c ≡ option_or a (option_or b c)
or-assoc None b c = refl
or-assoc (Some a) b c = refl

-- what was found, one more field, and the rest
pub told-on : {A : Type 0} → (all now new one rest : Option A) → all ≡ option_or now (option_or one rest) → new ≡ option_or now one → all ≡ option_or new rest
told-on all now new one rest is step = is ∙ sym (or-assoc now one rest) ∙ ap (λ o. option_or o rest) (sym step)

-- one field more was found or left, and the rest is one shorter
pub counted-on : (old new rest all : ℕ) → old + (rest + 1) ≡ all → new ≡ suc old → new + rest ≡ all
counted-on old new rest all are step = omega (arith, are, step)
