use Rattle.std.proofs.Common.{◌≡◌, refl, ap, sym, ◌∙◌, map, ℕ, List, [], ◌∷◌, ◌++◌, append_assoc, string_bytes, Result, Ok, Err}
use Rattle.std.proofs.lemmas.List.{map-append}
use Rattle.serde_json.specs.View.{view, members_view}
use Rattle.serde_json.specs.Data.{Data, Members, member}
use Rattle.iso_names.specs.Own.{Own, own_view}
use Rattle.iso_names.specs.Document.{Wrong, own_in, owns_in, behind, join}
use Rattle.iso_names.proofs.reading.owns_in.Goals as goal

-- names behind names behind others
behind_both : (first : List Own) (o : Own) (rest : Result (List Own) Wrong) → behind first (behind (o ∷ []) rest) ≡ behind (first ++ o ∷ []) rest
behind_both first o (Err w) = refl
behind_both first o (Ok rest) = ap (λ (x : List Own). Ok x) (sym (append_assoc first (o ∷ []) rest))

-- a further member
one_more : (first : List Own) (k : List ℕ) (d : Data) (ms : Members) (o : Own) → own_in k d ≡ Ok o → behind first (owns_in (member k d ms)) ≡ behind (first ++ o ∷ []) (owns_in ms)
one_more first k d ms o is = ap (λ (r : Result Own Wrong). behind first (join r (owns_in ms))) is ∙ behind_both first o (owns_in ms)

pub loop-key-preserved : goal.loop-key-preserved
loop-key-preserved c =
    let first = map own_view c.loop-key.own.items in
    let rest = members_view c.next.new.self in
    let steps : c.loop-key.key-iterator ≡ (c.in-Some.key.now, c.in-Some.value.now) ∷ c.next.new.self = c.in-Some.ensures.steps in
    let is : own_in (string_bytes c.in-Some.key.now) (view c.in-Some.value.now) ≡ Ok (own_view c.in_ok-own_in.field-0) = rw (← c.as_str.ensures.value) c.in_ok-own_in.ensures.ok in
    let more = one_more first (string_bytes c.in-Some.key.now) (view c.in-Some.value.now) rest (own_view c.in_ok-own_in.field-0) is in
    let here : owns_in (members_view c.args.members.now.entries) ≡ behind (map own_view (c.loop-key.own.items ++ c.in_ok-own_in.field-0 ∷ [])) (owns_in rest) =
    c.loop-key.invariant ∙ ap (λ es. behind first (owns_in (members_view es))) steps ∙ more ∙ ap (λ x. behind x (owns_in rest)) (sym (map-append own_view c.loop-key.own.items (c.in_ok-own_in.field-0 ∷ []))) in
    rw c.in_ok-push.ensures.items here
