-- A row in the place of the first one with its number.
use Rattle.std.proofs.Common.{◌≡◌, ◌≢◌, ◌<◌, ℕ, zero, suc, List, [], ◌∷◌, ◌++◌, length, get_or, eqb, refl, sym, ap, ◌∙◌, arith}
use Rattle.std.specs.Prelude.{slice_set}
use Rattle.std.proofs.lemmas.Bool.{eq-eqb, ne_eqb, cond-true, cond-false}
use Rattle.iso_table.specs.declared.draft.Row.{Row}
use Rattle.iso_review.specs.Changes.{put_row}

-- in the place of one that has the number, behind others
pub put_at : (r d x : Row) (xs : List Row) (i : ℕ) → i < length xs → ((k : ℕ) → k < i → (get_or xs k d).number ≢ r.number) → x ≡ get_or xs i x → x.number ≡ r.number → slice_set xs i r ≡ put_row r xs
put_at r d x [] i lt others is same = absurd (omega arith)
put_at r d x (y ∷ ys) zero lt others is same =
    sym (cond-true (eqb y.number r.number) (r ∷ ys) (y ∷ put_row r ys) (eq-eqb y.number r.number (ap (λ (q : Row). q.number) (sym is) ∙ same)))
put_at r d x (y ∷ ys) (suc i) lt others is same =
    ap (λ (qs : List Row). y ∷ qs) (put_at r d x ys i (omega arith) (λ k h. others (suc k) (omega arith)) is same)
    ∙ sym (cond-false (eqb y.number r.number) (r ∷ ys) (y ∷ put_row r ys) (ne_eqb y.number r.number (others zero (omega arith))))

-- behind all
pub put_end : (r d : Row) (xs : List Row) → ((k : ℕ) → k < length xs → (get_or xs k d).number ≢ r.number) → put_row r xs ≡ xs ++ r ∷ []
put_end r d [] others = refl
put_end r d (x ∷ xs) others =
    cond-false (eqb x.number r.number) (r ∷ xs) (x ∷ put_row r xs) (ne_eqb x.number r.number (others zero (omega arith)))
    ∙ ap (λ (ys : List Row). x ∷ ys) (put_end r d xs (λ k h. others (suc k) (omega arith)))
