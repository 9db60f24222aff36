-- Rows that are taken one after another.
use Rattle.std.proofs.Common.{◌≡◌, ◌∙◌, ℕ, ◌+◌, ◌<◌, List, [], ◌∷◌, ◌++◌, length, take, drop, get_or, append_assoc, append-nil, sym, ap, subst}
use Rattle.std.proofs.lemmas.List.{take_more, drop_more, take-append-drop, map-append}
use Rattle.iso_order.specs.Order.{Instruction}
use Rattle.iso_issuer.specs.declared.account.Account.{Account}
use Rattle.iso_record.specs.declared.row.Row.{Row}
use Rattle.iso_shared.specs.Kept.{orders_of}
use Rattle.iso_shared.specs.Written.{IsWritten, AreWritten}

module _ (accounts : List Account) (limit : ℕ) where
  written_both : (before : List Instruction) (xs ys : List Row) → AreWritten accounts limit before xs → AreWritten accounts limit (before ++ orders_of xs) ys
      → AreWritten accounts limit before (xs ++ ys)
  written_both before [] ys one two = subst (λ (l : List Instruction). AreWritten accounts limit l ys) (append-nil before) two
  written_both before (x ∷ xs) ys one two =
      (one.0, written_both (before ++ x.order ∷ []) xs ys one.1 (subst (λ (l : List Instruction). AreWritten accounts limit l ys) (sym (append_assoc before (x.order ∷ []) (orders_of xs))) two))

  written_at : (before : List Instruction) (xs : List Row) (y : Row) (ys : List Row) → AreWritten accounts limit before (xs ++ y ∷ ys)
      → IsWritten accounts limit (before ++ orders_of xs) y
  written_at before [] y ys are = subst (λ (l : List Instruction). IsWritten accounts limit l y) (sym (append-nil before)) are.0
  written_at before (x ∷ xs) y ys are =
      subst (λ (l : List Instruction). IsWritten accounts limit l y) (append_assoc before (x.order ∷ []) (orders_of xs))
      (written_at (before ++ x.order ∷ []) xs y ys are.1)

  pub written_step : (before now : List Instruction) (rows : List Row) (i : ℕ) (r : Row) → i < length rows → r ≡ get_or rows i r → now ≡ before ++ orders_of (take i rows)
      → AreWritten accounts limit before (take i rows) → IsWritten accounts limit now r → AreWritten accounts limit before (take (i + 1) rows)
  written_step before now rows i r lt is same are one =
      let more : take (i + 1) rows ≡ take i rows ++ r ∷ [] = take_more rows i r lt ∙ ap (λ (p : Row). take i rows ++ p ∷ []) (sym is) in
      subst (AreWritten accounts limit before) (sym more)
      (written_both before (take i rows) (r ∷ []) are (subst (λ (l : List Instruction). IsWritten accounts limit l r) same one, tt))

  pub not_step : (before now : List Instruction) (rows : List Row) (i : ℕ) (r : Row) → i < length rows → r ≡ get_or rows i r → now ≡ before ++ orders_of (take i rows)
      → (IsWritten accounts limit now r → ⊥) → AreWritten accounts limit before rows → ⊥
  not_step before now rows i r lt is same never are =
      let split : rows ≡ take i rows ++ r ∷ drop (i + 1) rows =
      sym (take-append-drop i rows) ∙ ap (λ (l : List Row). take i rows ++ l) (drop_more rows i r lt ∙ ap (λ (p : Row). p ∷ drop (i + 1) rows) (sym is)) in
      never (subst (λ (l : List Instruction). IsWritten accounts limit l r) (sym same)
      (written_at before (take i rows) r (drop (i + 1) rows) (subst (AreWritten accounts limit before) split are)))

pub orders_step : (before now new : List Instruction) (rows : List Row) (i : ℕ) (r : Row) → i < length rows → r ≡ get_or rows i r → now ≡ before ++ orders_of (take i rows)
    → new ≡ now ++ r.order ∷ [] → new ≡ before ++ orders_of (take (i + 1) rows)
orders_step before now new rows i r lt is same e =
    let more : take (i + 1) rows ≡ take i rows ++ r ∷ [] = take_more rows i r lt ∙ ap (λ (p : Row). take i rows ++ p ∷ []) (sym is) in
    e ∙ ap (λ (l : List Instruction). l ++ r.order ∷ []) same ∙ append_assoc before (orders_of (take i rows)) (r.order ∷ [])
    ∙ ap (λ (l : List Instruction). before ++ l) (sym (map-append (λ (x : Row). x.order) (take i rows) (r ∷ [])) ∙ ap orders_of (sym more))
