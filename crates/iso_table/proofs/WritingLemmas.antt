-- The document of a table, place by place.
use Rattle.std.proofs.Common.{◌≡◌, ℕ, ◌+◌, ◌<◌, List, [], ◌∷◌, ◌++◌, length, take, get_or, Option, Some, None, refl, sym, ap, ◌∙◌, arith}
use Rattle.std.proofs.lemmas.List.{take_more, length-take}
use Rattle.serde_json.specs.Data.{Data, Items, no_items, item}
use Rattle.serde_json.specs.View.{view, items_view}
use Rattle.serde_json.specs.declared.value.Value.{Value}
use Rattle.iso_parts.specs.declared.spec.FieldSpec.{FieldSpec}
use Rattle.iso_table.specs.Document.{row_data, rows_data}

items_push : Items → Data → Items
items_push no_items d = item d no_items
items_push (item e es) d = item e (items_push es d)

items_view-push : (vs : List Value) (v : Value) → items_view (vs ++ v ∷ []) ≡ items_push (items_view vs) (view v)
unfolding items_push
items_view-push [] v = refl
items_view-push (x ∷ xs) v = ap (item (view x)) (items_view-push xs v)

rows_data-push_none : (n : ℕ) (rs : List (Option FieldSpec)) → rows_data n (rs ++ None ∷ []) ≡ rows_data n rs
rows_data-push_none n [] = refl
rows_data-push_none n (None ∷ rs) = rows_data-push_none (n + 1) rs
rows_data-push_none n (Some s ∷ rs) = ap (item (row_data n s)) (rows_data-push_none (n + 1) rs)

rows_data-push_some : (n k : ℕ) (rs : List (Option FieldSpec)) (s : FieldSpec) → n + length rs ≡ k → rows_data n (rs ++ Some s ∷ []) ≡ items_push (rows_data n rs) (row_data k s)
unfolding items_push
rows_data-push_some n k [] s e = let same : n ≡ k = omega arith in ap (λ (m : ℕ). item (row_data m s) no_items) same
rows_data-push_some n k (None ∷ rs) s e = rows_data-push_some (n + 1) k rs s (omega arith)
rows_data-push_some n k (Some r ∷ rs) s e = ap (item (row_data n r)) (rows_data-push_some (n + 1) k rs s (omega arith))

pub values_more : (places : List (Option FieldSpec)) (i : ℕ) (d : Option FieldSpec) (s : FieldSpec) (values : List Value) (v : Value) → i < length places → get_or places i d ≡ Some s
    → items_view values ≡ rows_data 0 (take i places) → view v ≡ row_data i s → items_view (values ++ v ∷ []) ≡ rows_data 0 (take (i + 1) places)
values_more places i d s values v lt is so_far step =
    let more : take (i + 1) places ≡ take i places ++ Some s ∷ [] = take_more places i d lt ∙ ap (λ (x : Option FieldSpec). take i places ++ x ∷ []) is in
    let count : 0 + length (take i places) ≡ i = omega (arith, length-take i places) in
    items_view-push values v ∙ ap (λ (x : Data). items_push (items_view values) x) step ∙ ap (λ (xs : Items). items_push xs (row_data i s)) so_far ∙ sym (rows_data-push_some 0 i (take i places) s count) ∙ ap (rows_data 0) (sym more)

pub values_same : (places : List (Option FieldSpec)) (i : ℕ) (d : Option FieldSpec) (values : List Value) → i < length places → get_or places i d ≡ None
    → items_view values ≡ rows_data 0 (take i places) → items_view values ≡ rows_data 0 (take (i + 1) places)
values_same places i d values lt is so_far =
    let more : take (i + 1) places ≡ take i places ++ None ∷ [] = take_more places i d lt ∙ ap (λ (x : Option FieldSpec). take i places ++ x ∷ []) is in
    so_far ∙ sym (rows_data-push_none 0 (take i places)) ∙ ap (rows_data 0) (sym more)
