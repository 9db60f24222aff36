use Rattle.std.proofs.Common.{◌≡◌, ◌≤◌, ◌++◌, ◌-◌, ℕ, List, length, take, drop, sym, ap, ◌∙◌, arith}
use Rattle.std.proofs.lemmas.List.{length-take, length-drop}
use Rattle.iso_parts.specs.Reading.{without_front}
use Rattle.iso_parts.proofs.Stripping.{back_is, front_and_next}
use Rattle.iso_parts.proofs.padding.strip_front.Goals as goal

pub returns : goal.returns
returns c =
    let p = c.args.pad in
    let before = c.args.before in
    let items = c.args.out.now.items in
    let w : List ℕ = drop before items in
    let v : List ℕ = without_front p w in
    let pads = length w - length v in
    let text : c.split_at.result.1.now ≡ w = c.split_at.ensures.back ∙ ap (drop before) c.as_slice.ensures.value in
    let kept : c.without_front-kept.result.now ≡ v = c.without_front-kept.ensures.rest ∙ ap (without_front p) text in
    let front : c.split_at_mut-text.result.0.now ≡ take before items = c.split_at_mut-text.ensures.front ∙ ap (take before) c.as_mut_slice.ensures.value in
    let back : c.split_at_mut-text.result.1.now ≡ w = c.split_at_mut-text.ensures.back ∙ ap (drop before) c.as_mut_slice.ensures.value in
    let count : length c.split_at.result.1.now - length c.without_front-kept.result.now ≡ pads = ap (λ (l : List ℕ). length l - length c.without_front-kept.result.now) text ∙ ap (λ (l : List ℕ). length w - length l) kept in
    let rotated : c.rotate_left.new.self ≡ v ++ take pads w = c.rotate_left.ensures.after ∙ ap (λ (n : ℕ). drop n c.split_at_mut-text.result.1.now ++ take n c.split_at_mut-text.result.1.now) count ∙ ap (λ (l : List ℕ). drop pads l ++ take pads l) back ∙ ap (λ (l : List ℕ). l ++ take pads w) (back_is p w) in
    let size : length c.without_front-kept.result.now ≡ length v = ap length kept in
    let shorter : length c.without_front-kept.result.now ≤ length c.split_at.result.1.now = c.without_front-kept.ensures.shorter in
    let all : length c.split_at.result.1.now ≡ length items - before = ap length text ∙ length-drop before items in
    rw c.truncate.ensures.items
    (rw (front, rotated)
    (front_and_next (take before items) v (take pads w) _ before (length c.without_front-kept.result.now) c.args.out.now.len (omega (arith, length-take before items, c.as_mut_slice.ensures.len, ap length c.as_mut_slice.ensures.value)) (sym size) (omega (arith, c.as_mut_slice.ensures.len, ap length c.as_mut_slice.ensures.value))))
