-- Rows that stand in a table, and one more.
use Rattle.std.proofs.Common.{◌≡◌, ◌∙◌, ℕ, Bool, true, false, ◌||◌, List, [], ◌∷◌, ◌++◌, Result, Ok, Err, inl, inr, sym, ap, subst, refl}
use Rattle.std.specs.Prelude.{◌≢◌, ◌==◌, IsTrue, OnOk, IsErr}
use Rattle.std.proofs.lemmas.Bool.{eqb-false}
use Rattle.iso_parts.specs.Numbers.{is_element}
use Rattle.iso_parts.specs.Spec.{IsGood}
use Rattle.iso_parts.specs.declared.spec.FieldSpec.{FieldSpec}
use Rattle.iso_table.specs.declared.draft.Row.{Row}
use Rattle.iso_table.specs.Accepted.{AreRows, OtherNumbers, HasEachOnce}
use Rattle.iso_import.specs.declared.kinds.Bytes.{Bytes}
use Rattle.iso_import.specs.Kinds.{AreOfClasses, IsOfClass}
use Rattle.iso_import.specs.Found.{has_number, with_row, CanJoin, CanStand, GoOn, Found}

-- one more row that is good
good-more : (rows : List Row) (r : Row) → AreRows rows → IsTrue (is_element r.number) → IsGood r.spec
    → AreRows (rows ++ r ∷ [])
good-more [] r are is good = (is, good, tt)
good-more (q ∷ qs) r are is good = (are.0, are.1, good-more qs r are.2 is good)

-- other numbers than one row's, and one more of them
others-more : (q : Row) (rows : List Row) (r : Row) → OtherNumbers q rows → r.number ≢ q.number
    → OtherNumbers q (rows ++ r ∷ [])
others-more q [] r others ne = (ne, tt)
others-more q (p ∷ ps) r others ne = (others.0, others-more q ps r others.1 ne)

or-false : (a b : Bool) → (a || b) ≡ false → (a ≡ false) × (b ≡ false)
or-false false b h = (refl, h)
or-false true b h = absurd (cc)

-- one more row, whose number none of them has
once-more : (rows : List Row) (r : Row) → HasEachOnce rows → has_number rows r.number ≡ false
    → HasEachOnce (rows ++ r ∷ [])
once-more [] r once free = (tt, tt)
once-more (q ∷ qs) r once free =
    let parts = or-false (q.number == r.number) (has_number qs r.number) free in (
      others-more q qs r once.0 (λ e. eqb-false q.number r.number parts.0 (sym e)),
      once-more qs r once.1 parts.1,
    )

-- a row that can stand beside the others
stand-more : (rows : List Row) (number : ℕ) (spec : FieldSpec) → CanJoin rows number spec → CanStand rows
    → CanStand (with_row rows number spec)
stand-more rows number spec can stand = record {
  good = good-more rows (record { number = number; spec = spec }) stand.good can.element can.good;
  once = once-more rows (record { number = number; spec = spec }) stand.once can.free;
}

-- rows that go on can stand in a table, as they could before
pub stand_on : (Holds : ℕ → FieldSpec → Type 0) (old new : List Row) → GoOn Holds old new → CanStand old → CanStand new
stand_on Holds old new (inl same) stand = subst CanStand (sym same) stand
stand_on Holds old new (inr joins) stand = subst CanStand (sym joins.joined) (stand-more old joins.number joins.spec joins.can stand)

classes-more : (stand : Bytes) (rows : List Row) (number : ℕ) (spec : FieldSpec) → IsOfClass stand number spec
    → AreOfClasses stand rows → AreOfClasses stand (with_row rows number spec)
classes-more stand [] number spec is are = (is, tt)
classes-more stand (r ∷ rs) number spec is are = (are.0, classes-more stand rs number spec is are.1)

-- rows that go on are as classes have them, as they were before
pub classes_on : (stand : Bytes) (old new : List Row) → GoOn (IsOfClass stand) old new → AreOfClasses stand old → AreOfClasses stand new
classes_on stand old new (inl same) are = subst (AreOfClasses stand) (sym same) are
classes_on stand old new (inr joins) are = subst (AreOfClasses stand) (sym joins.joined) (classes-more stand old joins.number joins.spec joins.holds are)

-- rows go on, whether or not there was room for one more
pub joins : {A E : Type 0} → (Holds : ℕ → FieldSpec → Type 0) (first old new : Found) (number : ℕ) (spec : FieldSpec) (result : Result A E)
    → old.rows ≡ first.rows → Holds number spec → CanJoin old.rows number spec
    → OnOk result (new ≡ record old { rows = with_row old.rows number spec }) → (IsErr result → new ≡ old) → GoOn Holds first.rows new.rows
joins Holds first old new number spec (Ok a) same holds can row refused = inr (record {
  number = number;
  spec = spec;
  holds = holds;
  can = subst (λ rs. CanJoin rs number spec) same can;
  joined = ap (λ f. f.rows) row ∙ ap (λ rs. with_row rs number spec) same;
})
joins Holds first old new number spec (Err e) same holds can row refused = inl (ap (λ f. f.rows) (refused refl) ∙ same)
