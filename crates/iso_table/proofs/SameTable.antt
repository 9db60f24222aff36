-- A text stands for one table alone.
use Rattle.std.proofs.Common.{◌≡◌, ◌≢◌, ℕ, zero, suc, List, [], ◌∷◌, length, Option, Result, Ok, Err, refl, sym, ap, ap₂, subst, ◌∙◌, arith}
use Rattle.std.specs.Prelude.{IfOk, IfErr, IsErrOf, MatchResult}
use Rattle.iso_parts.specs.declared.digits.Digits.{Digits}
use Rattle.iso_parts.specs.declared.bitmap.BitmapCoding.{BitmapCoding}
use Rattle.iso_parts.specs.declared.spec.FieldSpec.{FieldSpec}
use Rattle.iso_table.specs.declared.fault.TableFault.{TableFault}
use Rattle.iso_table.specs.declared.fault.TableFault.TheVariants.{NotJson, Memory}
use Rattle.iso_table.specs.Layout.{Layout, IsAccepted, row_at}
use Rattle.iso_table.specs.Accepted.{DraftContents, Holds}
use Rattle.iso_table.specs.Document.{IsTableOf, IsDocumentFault, IsNotJson, table_in}

same_rows : (xs ys : List (Option FieldSpec)) → length xs ≡ length ys → ((n : ℕ) → row_at xs n ≡ row_at ys n) → xs ≡ ys
same_rows [] [] e h = refl
same_rows [] (y ∷ ys) e h = absurd (omega arith)
same_rows (x ∷ xs) [] e h = absurd (omega arith)
same_rows (x ∷ xs) (y ∷ ys) e h = ap₂ (λ (r : Option FieldSpec) (rs : List (Option FieldSpec)). r ∷ rs) (h zero) (same_rows xs ys (omega arith) (λ n. h (suc n)))

pub equal_layout : (t u : Layout) → t.version ≡ u.version → t.mti ≡ u.mti → t.bitmap ≡ u.bitmap → t.rows ≡ u.rows → t ≡ u
equal_layout t u a b c d =
    ap (λ (v : ℕ). record { version = v; mti = t.mti; bitmap = t.bitmap; rows = t.rows }) a
    ∙ ap (λ (m : Digits). record { version = u.version; mti = m; bitmap = t.bitmap; rows = t.rows }) b
    ∙ ap (λ (m : BitmapCoding). record { version = u.version; mti = u.mti; bitmap = m; rows = t.rows }) c
    ∙ ap (λ (rs : List (Option FieldSpec)). record { version = u.version; mti = u.mti; bitmap = u.bitmap; rows = rs }) d

pub same_table : (c : DraftContents) (t u : Layout) → IsAccepted t → IsAccepted u → Holds t c → Holds u c → t ≡ u
same_table c t u a b h k =
    equal_layout t u (h.version ∙ sym k.version) (h.mti ∙ sym k.mti) (h.bitmap ∙ sym k.bitmap)
    (same_rows t.rows u.rows (a.places ∙ sym b.places) (λ n. h.rows n ∙ sym (k.rows n)))

one_table : (text : List ℕ) (t u : Layout) → IsAccepted t → IsAccepted u → IsTableOf text t → IsTableOf text u → t ≡ u
one_table text t u a b p q =
    let text_p = p.2.1 in
    let text_q = q.2.1 in
    let data_same : p.0 ≡ q.0 = (cc) in
    let found_p : table_in q.0 ≡ Ok p.1 = sym (ap table_in data_same) ∙ p.3 in
    let found_q = q.3 in
    let same : p.1 ≡ q.1 = (cc) in
    same_table q.1 t u a b (subst (Holds t) same p.4) q.4

no_fault : (text : List ℕ) (t : Layout) (e : TableFault) → IsTableOf text t → IsDocumentFault text e → ⊥
no_fault text t e p q =
    let text_p = p.2.1 in
    let text_q = q.1.1 in
    let data_same : p.0 ≡ q.0 = (cc) in
    let found : table_in q.0 ≡ Ok p.1 = sym (ap table_in data_same) ∙ p.3 in
    let refused = q.2 in
    cc

no_text : (text : List ℕ) (t : Layout) → IsTableOf text t → IsNotJson text → ⊥
no_text text t p q = let none = q p.2.0 in let some = p.2.1 in cc

pub reads_only : (text : List ℕ) (r : Result Layout TableFault) → IfOk r (IsTableOf text) → IfOk r IsAccepted → (IsErrOf r NotJson → IsNotJson text) → IfErr r (λ e. e ≢ Memory → e ≢ NotJson → IsDocumentFault text e)
    → (t : Layout) → IsAccepted t → IsTableOf text t → MatchResult r (λ u. u ≡ t) (λ e. e ≡ Memory)
reads_only text (Ok u) ok good none bad t a p = one_table text u t good a ok p
reads_only text (Err Memory) ok good none bad t a p = refl
reads_only text (Err NotJson) ok good none bad t a p = absurd (no_text text t p (none refl))
reads_only text (Err e) ok good none bad t a p = absurd (no_fault text t e p (bad (λ h. cc) (λ h. cc)))
