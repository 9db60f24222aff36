-- The draft that says what a table says: it is accepted, the table holds it, and no other table does.
use Rattle.std.proofs.Common.{◌≡◌, ℕ, zero, suc, ◌+◌, ◌<◌, IsTrue, List, [], ◌∷◌, Option, Some, None, refl, sym, ap, subst, ◌∙◌, arith}
use Rattle.iso_parts.specs.Numbers.{is_element}
use Rattle.iso_parts.specs.declared.spec.FieldSpec.{FieldSpec}
use Rattle.iso_parts.specs.Spec.{IsGood}
use Rattle.iso_table.specs.declared.draft.Row.{Row}
use Rattle.iso_table.specs.Layout.{Layout, IsAccepted, row_at}
use Rattle.iso_table.specs.Accepted.{IsAcceptable, Holds, AreRows, OtherNumbers, HasEachOnce, row_of}
use Rattle.iso_table.specs.Rows.{rows_from, draft_of}
use Rattle.iso_table.proofs.RowLemmas.{row_of_here, row_of_after}
use Rattle.iso_table.proofs.SameTable.{same_table}

index_suc : (n k : ℕ) → n + 1 + k ≡ n + suc k
index_suc n k = omega arith

are_rows : (n : ℕ) (rs : List (Option FieldSpec)) → ((k : ℕ) (s : FieldSpec) → row_at rs k ≡ Some s → IsTrue (is_element (n + k)) × IsGood s) → AreRows (rows_from n rs)
are_rows n [] g = tt
are_rows n (None ∷ rs) g = are_rows (n + 1) rs (λ k s e. subst (λ (m : ℕ). IsTrue (is_element m) × IsGood s) (sym (index_suc n k)) (g (suc k) s e))
are_rows n (Some s ∷ rs) g =
    let here = g zero s refl in
    let same : n + 0 ≡ n = omega arith in
    (subst (λ (m : ℕ). IsTrue (is_element m)) same here.0, here.1, are_rows (n + 1) rs (λ k t e. subst (λ (m : ℕ). IsTrue (is_element m) × IsGood t) (sym (index_suc n k)) (g (suc k) t e)))

others : (r : Row) (n : ℕ) (rs : List (Option FieldSpec)) → r.number < n → OtherNumbers r (rows_from n rs)
others r n [] h = tt
others r n (None ∷ rs) h = others r (n + 1) rs (omega arith)
others r n (Some s ∷ rs) h = ((λ e. omega arith), others r (n + 1) rs (omega arith))

each_once : (n : ℕ) (rs : List (Option FieldSpec)) → HasEachOnce (rows_from n rs)
each_once n [] = tt
each_once n (None ∷ rs) = each_once (n + 1) rs
each_once n (Some s ∷ rs) = (others (record { number = n; spec = s }) (n + 1) rs (omega arith), each_once (n + 1) rs)

none_below : (n k : ℕ) (rs : List (Option FieldSpec)) → k < n → row_of (rows_from n rs) k ≡ None
none_below n k [] h = refl
none_below n k (None ∷ rs) h = none_below (n + 1) k rs (omega arith)
none_below n k (Some s ∷ rs) h = row_of_after (record { number = n; spec = s }) (rows_from (n + 1) rs) k (λ e. omega arith) ∙ none_below (n + 1) k rs (omega arith)

holds_at : (n : ℕ) (rs : List (Option FieldSpec)) (k : ℕ) → row_at rs k ≡ row_of (rows_from n rs) (n + k)
holds_at n [] k = refl
holds_at n (None ∷ rs) zero = sym (none_below (n + 1) (n + 0) rs (omega arith))
holds_at n (None ∷ rs) (suc k) = holds_at (n + 1) rs k ∙ ap (row_of (rows_from (n + 1) rs)) (index_suc n k)
holds_at n (Some s ∷ rs) zero = sym (row_of_here (record { number = n; spec = s }) (rows_from (n + 1) rs) (n + 0) (omega arith))
holds_at n (Some s ∷ rs) (suc k) = holds_at (n + 1) rs k ∙ ap (row_of (rows_from (n + 1) rs)) (index_suc n k) ∙ sym (row_of_after (record { number = n; spec = s }) (rows_from (n + 1) rs) (n + suc k) (λ e. omega arith))

zero_on : (k : ℕ) → 0 + k ≡ k
zero_on k = omega arith

pub draft_accepted : (t : Layout) → IsAccepted t → IsAcceptable (draft_of t)
draft_accepted t a = record {
  version = a.version;
  rows = are_rows 0 t.rows (λ k s e. subst (λ (m : ℕ). IsTrue (is_element m) × IsGood s) (sym (zero_on k)) (a.numbers k s e, a.good k s e));
  once = each_once 0 t.rows;
}

pub draft_held : (t : Layout) → Holds t (draft_of t)
draft_held t = record { version = refl; mti = refl; bitmap = refl; rows = λ n. holds_at 0 t.rows n ∙ ap (row_of (rows_from 0 t.rows)) (zero_on n) }

pub held_alone : (t : Layout) → IsAccepted t → (u : Layout) → IsAccepted u → Holds u (draft_of t) → u ≡ t
held_alone t a u b h = same_table (draft_of t) u t b a h (draft_held t)
