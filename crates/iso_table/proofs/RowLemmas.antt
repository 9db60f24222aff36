-- Rows at their numbers, and what is wrong with them.
use Rattle.std.specs.Option.{option_or}
use Rattle.std.proofs.Common.{◌≡◌, ◌≢◌, ℕ, zero, suc, ◌+◌, ◌<◌, Bool, true, false, cond, not, eqb, IsTrue, List, [], ◌∷◌, ◌++◌, length, take, drop, get_or, replicate, Option, Some, None, refl, sym, ap, subst, ◌∙◌, add-one, arith, inl, inr}
use Rattle.std.specs.Prelude.{is_some, slice_set}
use Rattle.std.proofs.lemmas.Bool.{cases_eq, eq-eqb, ne_eqb, cond-true, cond-false}
use Rattle.std.proofs.lemmas.Bool.Decides.{nat_tests}
use Rattle.std.proofs.lemmas.List.{take_more}
use Rattle.std.proofs.Math.Seq.{drop-cons}
use Rattle.iso_parts.specs.Numbers.{is_element}
use Rattle.iso_parts.specs.declared.spec.FieldSpec.{FieldSpec}
use Rattle.iso_parts.specs.declared.spec.SpecFault.{SpecFault}
use Rattle.iso_parts.specs.declared.spec.SpecFault.TheVariants as specs
use Rattle.iso_parts.specs.Spec.{IsGood, is_good_max, is_coded, is_good_pad, spec_fault}
use Rattle.iso_table.specs.declared.draft.Row.{Row}
use Rattle.iso_table.specs.declared.fault.TableFault.{TableFault}
use Rattle.iso_table.specs.declared.fault.TableFault.TheVariants.{BadNumber, Twice}
use Rattle.iso_table.specs.Layout.{Layout, IsAccepted, row_at, is_version}
use Rattle.iso_table.specs.Accepted.{DraftContents, IsAcceptable, AreRows, OtherNumbers, HasEachOnce, row_of, at_row, row_fault, rows_fault}

-- ---- places

pub row_at-replicate : (k n : ℕ) → row_at (replicate k None) n ≡ None
row_at-replicate zero n = refl
row_at-replicate (suc k) zero = refl
row_at-replicate (suc k) (suc n) = row_at-replicate k n

pub row_at-set_same : (xs : List (Option FieldSpec)) (i : ℕ) (r : Option FieldSpec) → i < length xs → row_at (slice_set xs i r) i ≡ r
row_at-set_same [] i r h = absurd (omega arith)
row_at-set_same (x ∷ xs) zero r h = refl
row_at-set_same (x ∷ xs) (suc i) r h = row_at-set_same xs i r (omega arith)

pub row_at-set_other : (xs : List (Option FieldSpec)) (i j : ℕ) (r : Option FieldSpec) → i ≢ j → row_at (slice_set xs i r) j ≡ row_at xs j
row_at-set_other [] i j r h = refl
row_at-set_other (x ∷ xs) zero zero r h = absurd (h refl)
row_at-set_other (x ∷ xs) zero (suc j) r h = refl
row_at-set_other (x ∷ xs) (suc i) zero r h = refl
row_at-set_other (x ∷ xs) (suc i) (suc j) r h = row_at-set_other xs i j r (λ e. h (ap (λ n. suc n) e))

-- ---- look-ups

pub row_of_here : (r : Row) (rs : List Row) (n : ℕ) → r.number ≡ n → row_of (r ∷ rs) n ≡ Some r.spec
row_of_here r rs n e = cond-true (eqb r.number n) (Some r.spec) (row_of rs n) (eq-eqb r.number n e)

pub row_of_after : (r : Row) (rs : List Row) (n : ℕ) → r.number ≢ n → row_of (r ∷ rs) n ≡ row_of rs n
row_of_after r rs n e = cond-false (eqb r.number n) (Some r.spec) (row_of rs n) (ne_eqb r.number n e)

pub row_of-push_same : (xs : List Row) (r : Row) → row_of xs r.number ≡ None → row_of (xs ++ r ∷ []) r.number ≡ Some r.spec
row_of-push_same [] r new = row_of_here r [] r.number refl
row_of-push_same (x ∷ xs) r new =
    elim (cases_eq x.number r.number) [
      | inl same ↦ let there = row_of_here x xs r.number same in cc
      | inr other ↦ row_of_after x (xs ++ r ∷ []) r.number other ∙ row_of-push_same xs r (sym (row_of_after x xs r.number other) ∙ new)
    ]

pub row_of-push_other : (xs : List Row) (r : Row) (n : ℕ) → r.number ≢ n → row_of (xs ++ r ∷ []) n ≡ row_of xs n
row_of-push_other [] r n ne = row_of_after r [] n ne
row_of-push_other (x ∷ xs) r n ne =
    elim (cases_eq x.number n) [
      | inl same ↦ row_of_here x (xs ++ r ∷ []) n same ∙ sym (row_of_here x xs n same)
      | inr other ↦ row_of_after x (xs ++ r ∷ []) n other ∙ row_of-push_other xs r n ne ∙ sym (row_of_after x xs n other)
    ]

-- a number that no row has, with one row more
pub row_of-push_none : (xs : List Row) (r : Row) (n : ℕ) → row_of (xs ++ r ∷ []) n ≡ None → (row_of xs n ≡ None) × (n ≢ r.number)
row_of-push_none [] r n none = (refl, λ e. let here = row_of_here r [] n (sym e) in cc)
row_of-push_none (x ∷ xs) r n none =
    elim (cases_eq x.number n) [
      | inl same ↦ let here = row_of_here x (xs ++ r ∷ []) n same in absurd (cc)
      | inr other ↦
          let rest = row_of-push_none xs r n (sym (row_of_after x (xs ++ r ∷ []) n other) ∙ none) in
          (row_of_after x xs n other ∙ rest.0, rest.1)
    ]

-- ---- what is wrong with a row

faultless : (a b d : Bool) → (cond (not a) (Some specs.BadMax) (cond (not b) (Some specs.CodingClass) (cond (not d) (Some specs.PadNotAllowed) None))) ≡ None → IsTrue a × IsTrue b × IsTrue d
faultless true true true h = (refl, refl, refl)
faultless true true false h = absurd (cc)
faultless true false d h = absurd (cc)
faultless false b d h = absurd (cc)

pub IsGood-from_none : (s : FieldSpec) → spec_fault s ≡ None → IsGood s
IsGood-from_none s h =
    let is = faultless (is_good_max s) (is_coded s.coding s.class) (is_good_pad s s.pad) h in
    record { max = is.0; coding = is.1; pad = is.2 }

none_by : (a b d : Bool) → IsTrue a → IsTrue b → IsTrue d → (cond (not a) (Some specs.BadMax) (cond (not b) (Some specs.CodingClass) (cond (not d) (Some specs.PadNotAllowed) None))) ≡ None
none_by true true true p q r = refl
none_by true true false p q r = absurd (cc)
none_by true false d p q r = absurd (cc)
none_by false b d p q r = absurd (cc)

pub none_from_IsGood : (s : FieldSpec) → IsGood s → spec_fault s ≡ None
none_from_IsGood s g = none_by (is_good_max s) (is_coded s.coding s.class) (is_good_pad s s.pad) g.max g.coding g.pad

at_row_none : (n : ℕ) (o : Option SpecFault) → at_row n o ≡ None → o ≡ None
at_row_none n None h = refl
at_row_none n (Some e) h = absurd (cc)

row_by : (a u : Bool) (n : ℕ) (o : Option SpecFault) → cond (not a) (Some (BadNumber n)) (cond u (Some (Twice n)) (at_row n o)) ≡ None → IsTrue a × (u ≡ false) × (o ≡ None)
row_by true false n o h = (refl, refl, at_row_none n o h)
row_by true true n o h = absurd (cc)
row_by false u n o h = absurd (cc)

-- a row with nothing wrong
pub row_fault_none : (u : Bool) (r : Row) → row_fault u r ≡ None → IsTrue (is_element r.number) × (u ≡ false) × IsGood r.spec
row_fault_none u r h =
    let is = row_by (is_element r.number) u r.number (spec_fault r.spec) h in
    (is.0, is.1, IsGood-from_none r.spec is.2)

none_of : (a u : Bool) (n : ℕ) (o : Option SpecFault) → IsTrue a → u ≡ false → o ≡ None → cond (not a) (Some (BadNumber n)) (cond u (Some (Twice n)) (at_row n o)) ≡ None
none_of true u n o p q r = rw (q, r) refl
none_of false u n o p q r = absurd (cc)

pub row_fault-good : (u : Bool) (r : Row) → IsTrue (is_element r.number) → u ≡ false → IsGood r.spec → row_fault u r ≡ None
row_fault-good u r p q g = none_of (is_element r.number) u r.number (spec_fault r.spec) p q (none_from_IsGood r.spec g)

-- ---- what is wrong with rows

is_some_none : (o : Option FieldSpec) → is_some o ≡ false → o ≡ None
is_some_none None h = refl
is_some_none (Some s) h = absurd (cc)

or_else_none : (a b : Option TableFault) → option_or a b ≡ None → (a ≡ None) × (b ≡ None)
or_else_none None b h = (refl, h)
or_else_none (Some e) b h = absurd (cc)

-- no row has a number of the earlier ones
abbrev pub AreNew : List Row → List Row → Type 0
AreNew earlier [] = Unit {0}
AreNew earlier (r ∷ rs) = (row_of earlier r.number ≡ None) × AreNew earlier rs

new_before : (earlier : List Row) (r : Row) (rs : List Row) → AreNew (earlier ++ r ∷ []) rs → AreNew earlier rs × OtherNumbers r rs
new_before earlier r [] h = (tt, tt)
new_before earlier r (q ∷ qs) h =
    let here = row_of-push_none earlier r q.number h.0 in
    let rest = new_before earlier r qs h.1 in
    ((here.0, rest.0), (here.1, rest.1))

new_after : (earlier : List Row) (r : Row) (rs : List Row) → AreNew earlier rs → OtherNumbers r rs → AreNew (earlier ++ r ∷ []) rs
new_after earlier r [] h k = tt
new_after earlier r (q ∷ qs) h k = (row_of-push_other earlier r q.number (λ e. k.0 (sym e)) ∙ h.0, new_after earlier r qs h.1 k.1)

pub accepted_from_none : (earlier rows : List Row) → rows_fault earlier rows ≡ None → AreRows rows × HasEachOnce rows × AreNew earlier rows
accepted_from_none earlier [] h = (tt, tt, tt)
accepted_from_none earlier (r ∷ rs) h =
    let parts = or_else_none (row_fault (is_some (row_of earlier r.number)) r) (rows_fault (earlier ++ r ∷ []) rs) h in
    let here = row_fault_none (is_some (row_of earlier r.number)) r parts.0 in
    let rest = accepted_from_none (earlier ++ r ∷ []) rs parts.1 in
    let split = new_before earlier r rs rest.2 in
    ((here.0, here.2, rest.0), (split.1, rest.1), (is_some_none (row_of earlier r.number) here.1, split.0))

pub none_from_accepted : (earlier rows : List Row) → AreRows rows → HasEachOnce rows → AreNew earlier rows → rows_fault earlier rows ≡ None
none_from_accepted earlier [] good once new = refl
none_from_accepted earlier (r ∷ rs) good once new =
    let rest = none_from_accepted (earlier ++ r ∷ []) rs good.2 once.1 (new_after earlier r rs new.1 once.0) in
    let here = row_fault-good (is_some (row_of earlier r.number)) r good.0 (ap is_some new.0) good.1 in
    rw (here, rest) refl

pub new_first : (rows : List Row) → AreNew [] rows
new_first [] = tt
new_first (r ∷ rs) = (refl, new_first rs)

-- the row of a number is of an element, and good
pub row_of-good : (rows : List Row) → AreRows rows → (n : ℕ) (s : FieldSpec) → row_of rows n ≡ Some s → IsTrue (is_element n) × IsGood s
row_of-good [] good n s h = absurd (cc)
row_of-good (r ∷ rs) good n s h =
    elim (cases_eq r.number n) [
      | inl same ↦
          let here = row_of_here r rs n same in
          let is : r.spec ≡ s = (cc) in
          (subst (λ (k : ℕ). IsTrue (is_element k)) same good.0, subst (λ (t : FieldSpec). IsGood t) is good.1)
      | inr other ↦ row_of-good rs good.2 n s (sym (row_of_after r rs n other) ∙ h)
    ]

element_low : (n size : ℕ) → IsTrue (is_element n) → size ≡ 129 → n < size
element_low n size h e = grind (arith, nat_tests)

-- ---- one row more

pub placed_more : (rows : List Row) (i : ℕ) (d : Row) (old new : List (Option FieldSpec)) → i < length rows → length old ≡ 129 → ((n : ℕ) → row_at old n ≡ row_of (take i rows) n)
    → row_fault (is_some (row_at old (get_or rows i d).number)) (get_or rows i d) ≡ None → new ≡ slice_set old (get_or rows i d).number (Some (get_or rows i d).spec) → (n : ℕ) → row_at new n ≡ row_of (take (i + 1) rows) n
placed_more rows i d old new lt size so_far fine step n =
    let r : Row = get_or rows i d in
    let here = row_fault_none (is_some (row_at old r.number)) r fine in
    let free : row_at old r.number ≡ None = is_some_none (row_at old r.number) here.1 in
    let more : take (i + 1) rows ≡ take i rows ++ r ∷ [] = take_more rows i d lt in
    let low : r.number < length old = element_low r.number (length old) here.0 size in
    elim (cases_eq r.number n) [
      | inl same ↦
          let put = row_at-set_same old r.number (Some r.spec) low in
          let said = row_of-push_same (take i rows) r (sym (so_far r.number) ∙ free) in
          subst (λ (k : ℕ). row_at new k ≡ row_of (take (i + 1) rows) k) same (rw (step, more) (put ∙ sym said))
      | inr other ↦ rw (step, more) (row_at-set_other old r.number n (Some r.spec) other ∙ so_far n ∙ sym (row_of-push_other (take i rows) r n other))
    ]

pub judged_more : (rows : List Row) (i : ℕ) (d : Row) (old : List (Option FieldSpec)) (total : Option TableFault) → i < length rows → ((n : ℕ) → row_at old n ≡ row_of (take i rows) n)
    → row_fault (is_some (row_at old (get_or rows i d).number)) (get_or rows i d) ≡ None → rows_fault (take i rows) (drop i rows) ≡ total → rows_fault (take (i + 1) rows) (drop (i + 1) rows) ≡ total
judged_more rows i d old total lt so_far fine judged =
    let r : Row = get_or rows i d in
    let rest : Option TableFault = rows_fault (take (i + 1) rows) (drop (i + 1) rows) in
    let more : take (i + 1) rows ≡ take i rows ++ r ∷ [] = take_more rows i d lt in
    let less : drop i rows ≡ r ∷ drop (i + 1) rows = drop-cons rows i d lt ∙ ap (λ (k : ℕ). r ∷ drop k rows) (sym (add-one i)) in
    let none : row_fault (is_some (row_of (take i rows) r.number)) r ≡ None = ap (λ (o : Option FieldSpec). row_fault (is_some o) r) (sym (so_far r.number)) ∙ fine in
    let whole : option_or (row_fault (is_some (row_of (take i rows) r.number)) r) (rows_fault (take i rows ++ r ∷ []) (drop (i + 1) rows)) ≡ total = sym (ap (rows_fault (take i rows)) less) ∙ judged in
    rw more (sym (ap (λ (o : Option TableFault). option_or o (rows_fault (take i rows ++ r ∷ []) (drop (i + 1) rows))) none) ∙ whole)

-- ---- a table of rows with nothing wrong

-- rows stand at the numbers of elements
pub at_elements : (places : List (Option FieldSpec)) (rows : List Row) → ((n : ℕ) → row_at places n ≡ row_of rows n) → rows_fault [] rows ≡ None → (n : ℕ) (s : FieldSpec) → row_at places n ≡ Some s → IsTrue (is_element n)
at_elements places rows said fine n s e = (row_of-good rows (accepted_from_none [] rows fine).0 n s (sym (said n) ∙ e)).0

pub table_made : (t : Layout) (rows : List Row) → IsTrue (is_version t.version) → length t.rows ≡ 129 → ((n : ℕ) → row_at t.rows n ≡ row_of rows n) → rows_fault [] rows ≡ None → IsAccepted t
table_made t rows version size said fine =
    let good = (accepted_from_none [] rows fine).0 in
    record {
      version = version;
      places = size;
      numbers = λ n s e. (row_of-good rows good n s (sym (said n) ∙ e)).0;
      good = λ n s e. (row_of-good rows good n s (sym (said n) ∙ e)).1;
    }

pub accepted : (d : DraftContents) → IsTrue (is_version d.version) → rows_fault [] d.rows ≡ None → IsAcceptable d
accepted d version fine =
    let is = accepted_from_none [] d.rows fine in
    record { version = version; rows = is.0; once = is.1 }

pub refused : (d : DraftContents) (e : TableFault) → rows_fault [] d.rows ≡ Some e → ¬ IsAcceptable d
refused d e h = λ a. let none = none_from_accepted [] d.rows a.rows a.once (new_first d.rows) in cc
