use Rattle.std.proofs.Common.{◌≡◌, ◌++◌, ◌+◌, length, take, drop, reverse, sym, ap, ◌∙◌}
use Rattle.std.proofs.Math.Seq.{take-add}
use Rattle.iso_parts.specs.Reading.{without_front, without_padding}
use Rattle.iso_parts.proofs.Stripping.{front_is}
use Rattle.iso_parts.proofs.padding.Pad.strip.Goals as goal

pub returns-in-Right : goal.returns-in-Right
returns-in-Right c =
    let p = c.in-Right.pad in
    let before = c.args.before in
    let items = c.args.out.now.items in
    let text : c.split_at.result.1.now ≡ drop before items = c.split_at.ensures.back ∙ ap (drop before) c.as_slice.ensures.value in
    let kept : length c.without_end-kept.result.now ≡ length (reverse (without_front p (reverse (drop before items)))) = ap length c.without_end-kept.ensures.rest ∙ ap (λ l. length (reverse (without_front p (reverse l)))) text in
    c.truncate.ensures.items ∙ ap (λ n. take (before + n) items) kept ∙ take-add before _ items ∙ ap (λ l. take before items ++ l) (front_is p (drop before items)) ∙ ap (λ s. take before items ++ without_padding s (drop before items)) (sym c.in-Right.is)
