-- What a JSON value stands for.
use Rattle.std.specs.Option.{option_or}
use Rattle.std.proofs.Common.{◌≡◌, ℕ, ◌+◌, ◌<◌, Bool, true, false, cond, not, IsTrue, List, [], ◌∷◌, ◌++◌, length, drop, get_or, Option, Some, None, Ok, Err, option_map, refl, sym, ap, ◌∙◌, append_assoc, add-one}
use Rattle.std.specs.Prelude.{is_some}
use Rattle.std.proofs.Math.Seq.{drop-cons}
use Rattle.serde_json.specs.Data.{Data}
use Rattle.serde_json.specs.View.{view, items_view}
use Rattle.serde_json.specs.declared.value.Value.{Value}
use Rattle.iso_parts.specs.Numbers.{is_element}
use Rattle.iso_parts.specs.declared.spec.SpecFault.{SpecFault}
use Rattle.iso_parts.specs.declared.spec.SpecFault.TheVariants as specs
use Rattle.iso_parts.specs.Spec.{spec_fault}
use Rattle.iso_table.specs.declared.draft.Row.{Row}
use Rattle.iso_table.specs.declared.reading.Profile.{Profile}
use Rattle.iso_table.specs.declared.fault.TableFault.{TableFault}
use Rattle.iso_table.specs.declared.fault.TableFault.TheVariants.{NotJson, BadVersion, BadNumber, Twice}
use Rattle.iso_table.specs.Layout.{is_version}
use Rattle.iso_table.specs.Accepted.{DraftContents, IsAcceptable, at_row, row_fault, row_of, rows_fault, draft_fault}
use Rattle.iso_table.specs.Document.{document_row, rows_in, draft_in, table_in}
use Rattle.iso_table.specs.Members.{◌>>=◌}
use Rattle.iso_table.proofs.RowLemmas.{none_from_accepted, new_first}

-- ---- rows

cons_map : (so_far : List Row) (row : Row) (rest : Option (List Row)) → option_map (λ rs. so_far ++ rs) (option_map (λ rs. row ∷ rs) rest) ≡ option_map (λ rs. (so_far ++ row ∷ []) ++ rs) rest
cons_map so_far row None = refl
cons_map so_far row (Some rs) = ap (λ (xs : List Row). Some xs) (sym (append_assoc so_far (row ∷ []) rs))

pub rows_more : (p : Profile) (values : List Value) (i : ℕ) (v : Value) (row : Row) (so_far : List Row) (total : Option (List Row)) → i < length values → document_row p (view (get_or values i v)) ≡ Some row
    → total ≡ option_map (λ rest. so_far ++ rest) (rows_in p (items_view (drop i values))) → total ≡ option_map (λ rest. (so_far ++ row ∷ []) ++ rest) (rows_in p (items_view (drop (i + 1) values)))
rows_more p values i v row so_far total lt is judged =
    let less : drop i values ≡ get_or values i v ∷ drop (i + 1) values = drop-cons values i v lt ∙ ap (λ (k : ℕ). get_or values i v ∷ drop k values) (sym (add-one i)) in
    let rest : Option (List Row) = rows_in p (items_view (drop (i + 1) values)) in
    let here : rows_in p (items_view (drop i values)) ≡ option_map (λ rs. row ∷ rs) rest = ap (λ (vs : List Value). rows_in p (items_view vs)) less ∙ ap (λ (o : Option Row). o >>= (λ r. option_map (λ rs. r ∷ rs) rest)) is in
    judged ∙ ap (option_map (λ rs. so_far ++ rs)) here ∙ cons_map so_far row rest

-- ---- a table or a fault

pub fault_none : (c : DraftContents) → IsAcceptable c → draft_fault c ≡ None
fault_none c a = by (is_version c.version) a.version (none_from_accepted [] c.rows a.rows a.once (new_first c.rows))
  where
    by : (b : Bool) → IsTrue b → rows_fault [] c.rows ≡ None → cond (not b) (Some BadVersion) (rows_fault [] c.rows) ≡ None
    by true h k = k
    by false h k = absurd (cc)

pub table_found : (d : Data) (c : DraftContents) → draft_in d ≡ Ok c → IsAcceptable c → table_in d ≡ Ok c
table_found d c h a = rw (h, fault_none c a) refl

pub table_refused : (d : Data) (c : DraftContents) (e : TableFault) → draft_in d ≡ Ok c → draft_fault c ≡ Some e → table_in d ≡ Err e
table_refused d c e h k = rw (h, k) refl

pub draft_refused : (d : Data) (e : TableFault) → draft_in d ≡ Err e → table_in d ≡ Err e
draft_refused d e h = rw h refl

spec_is_json : (n : ℕ) (o : Option SpecFault) → at_row n o ≡ Some NotJson → ⊥
spec_is_json n None h = cc
spec_is_json n (Some specs.BadMax) h = cc
spec_is_json n (Some specs.CodingClass) h = cc
spec_is_json n (Some specs.PadNotAllowed) h = cc

row_is_json : (a u : Bool) (n : ℕ) (o : Option SpecFault) → cond (not a) (Some (BadNumber n)) (cond u (Some (Twice n)) (at_row n o)) ≡ Some NotJson → ⊥
row_is_json true true n o h = cc
row_is_json true false n o h = spec_is_json n o h
row_is_json false u n o h = cc

or_else_json : (a b : Option TableFault) → (a ≡ Some NotJson → ⊥) → (b ≡ Some NotJson → ⊥) → option_or a b ≡ Some NotJson → ⊥
or_else_json None b p q h = q h
or_else_json (Some e) b p q h = p h

rows_are_json : (earlier rows : List Row) → rows_fault earlier rows ≡ Some NotJson → ⊥
rows_are_json earlier [] h = cc
rows_are_json earlier (r ∷ rs) h =
    or_else_json (row_fault (is_some (row_of earlier r.number)) r) (rows_fault (earlier ++ r ∷ []) rs)
    (row_is_json (is_element r.number) (is_some (row_of earlier r.number)) r.number (spec_fault r.spec))
    (rows_are_json (earlier ++ r ∷ []) rs) h

-- what is wrong with a draft isn't that it is no JSON
pub fault_is_json : (c : DraftContents) → draft_fault c ≡ Some NotJson → ⊥
fault_is_json c h = by (is_version c.version) h
  where
    by : (b : Bool) → cond (not b) (Some BadVersion) (rows_fault [] c.rows) ≡ Some NotJson → ⊥
    by true h = rows_are_json [] c.rows h
    by false h = cc
