-- Elements to which one is added behind the others.
use Rattle.std.proofs.Common.{◌≡◌, ℕ, ◌≤◌, false, List, [], ◌∷◌, ◌++◌, length, refl, sym, ap, subst, ◌∙◌, append_assoc, arith}
use Rattle.std.proofs.lemmas.List.{append-nil, length-append}
use Rattle.iso_parts.specs.Bitmap.{contains}
use Rattle.iso_parts.specs.Numbers.{members, members_below}
use Rattle.iso_wire.specs.declared.elements.Elements.{Elements}
use Rattle.iso_wire.specs.Elements.{has, IsBelow}
use Rattle.iso_wire.specs.Ends.{elements_of, views, Ascend, Adds, Awaits, IsMadeOf, IsNumbered, IsWhole}
use Rattle.iso_wire.proofs.Orders.{Values}
use Rattle.iso_wire.proofs.Sets.{has_after}
use Rattle.iso_wire.proofs.Buffers.{elements_of-push, elements_of-later, ascend_push}
use Rattle.iso_wire.proofs.Ranks.{members_above, members_there, members_lacking, same_below, same_above, none_above}
use Rattle.iso_wire.proofs.Changes.{made_of, whole_of}

-- ---- an element whose number is awaited

module _ (x y : Elements) (n : ℕ) (later v : List ℕ) (awaits : Awaits x (n ∷ later)) (kept : y.numbers ≡ x.numbers) (made : IsMadeOf y (x.ends.items ++ length (x.values.items ++ v) ∷ []) (x.values.items ++ v)) where
  pub appended : views y ≡ views x ++ (n, v) ∷ []
  appended =
      let es = x.ends.items in
      let b = x.values.items in
      made_of y (awaits.done ++ n ∷ later) _ _ (ap members kept ∙ awaits.numbers) made
      ∙ elements_of-push awaits.done later n es v b awaits.count awaits.ends
      ∙ ap (λ (l : Values). l ++ (n, v) ∷ []) (sym (elements_of-later awaits.done (n ∷ later) 0 es b awaits.count) ∙ ap (λ (l : List ℕ). elements_of l 0 es b) (sym awaits.numbers))

  pub awaits_less : Awaits y later
  awaits_less =
      let es = x.ends.items in
      let b = x.values.items in
      record {
        ends = subst (λ (k : ℕ). Ascend 0 y.ends.items k) (sym (ap length made.values)) (subst (λ (l : List ℕ). Ascend 0 l (length (b ++ v))) (sym made.ends) (ascend_push es v b awaits.ends));
        done = awaits.done ++ n ∷ [];
        numbers = ap members kept ∙ awaits.numbers ∙ sym (append_assoc awaits.done (n ∷ []) later);
        count = ap length made.ends ∙ omega (arith, awaits.count, length-append es (length (b ++ v) ∷ []), length-append awaits.done (n ∷ []));
      }

-- behind the last one they are whole
pub awaits_none : (x : Elements) → Awaits x [] → IsWhole x
awaits_none x awaits = record { ends = awaits.ends; count = awaits.count ∙ ap length (sym (append-nil awaits.done) ∙ sym awaits.numbers) }

-- ---- an element that is new to the set

has_not-above : (n k : ℕ) (es : Values) → n ≤ k → IsBelow n es → has es k ≡ false
has_not-above n k [] le below = refl
has_not-above n k (e ∷ es) le below = has_after e es k (λ same. omega (arith, below.0, le, same)) ∙ has_not-above n k es le below.1

module _ (x y : Elements) (n : ℕ) (v : List ℕ) (low : 2 ≤ n) (high : n ≤ 128) (whole : IsWhole x) (numbered : IsNumbered x) (behind : IsBelow n (views x)) (adds : Adds x.numbers y.numbers n) (made : IsMadeOf y (x.ends.items ++ length (x.values.items ++ v) ∷ []) (x.values.items ++ v)) where
  absent : (k : ℕ) → n ≤ k → contains x.numbers k ≡ false
  absent k le = numbered k ∙ has_not-above n k (views x) le behind

  nothing : members_above x.numbers n ≡ []
  nothing = none_above x.numbers n low high (λ k lt. absent k (omega (arith, lt)))

  old_numbers : members x.numbers ≡ members_below x.numbers n
  old_numbers = members_lacking x.numbers n low high (absent n (omega arith)) ∙ ap (λ (l : List ℕ). members_below x.numbers n ++ l) nothing ∙ append-nil (members_below x.numbers n)

  new_numbers : members y.numbers ≡ members x.numbers ++ n ∷ []
  new_numbers =
      members_there y.numbers n low high adds.0
      ∙ ap (λ (l : List ℕ). l ++ n ∷ members_above y.numbers n) (same_below x.numbers n low high y.numbers adds.1 ∙ sym old_numbers)
      ∙ ap (λ (l : List ℕ). members x.numbers ++ n ∷ l) (same_above x.numbers n low high y.numbers adds.1 ∙ nothing)

  pub added : views y ≡ views x ++ (n, v) ∷ []
  added = made_of y (members x.numbers ++ n ∷ []) _ _ new_numbers made ∙ elements_of-push (members x.numbers) [] n x.ends.items v x.values.items whole.count whole.ends

  pub added_whole : IsWhole y
  added_whole =
      let es = x.ends.items in
      let all = x.values.items ++ v in
      whole_of y (members x.numbers ++ n ∷ []) _ _ new_numbers made (ascend_push es v x.values.items whole.ends)
      (omega (arith, whole.count, length-append es (length all ∷ []), length-append (members x.numbers) (n ∷ [])))
