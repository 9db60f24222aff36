use Rattle.std.proofs.Common.{◌≡◌, List, ℕ, [], ◌++◌, drop, sym, ap, ◌∙◌, arith, append-nil}
use Rattle.iso_parts.specs.Part.{with_padding, pairs}
use Rattle.iso_parts.proofs.Pairs.{no_pairs_from, length_padded}
use Rattle.iso_parts.proofs.field.encode_padded_pairs.Goals as goal

pub returns-clause-ok : goal.returns-clause-ok
returns-clause-ok c =
    let w : List ℕ = with_padding c.args.spec.now c.args.value.now in
    let whole = length_padded c.args.spec.now c.args.value.now c.requires.room c.requires.exact in
    let none : pairs (drop c.loop-at.at w) ≡ [] = no_pairs_from w c.loop-at.at (omega (arith, whole, c.loop-at-test.false)) in
    sym (append-nil c.loop-at.out.items) ∙ ap (λ (l : List ℕ). c.loop-at.out.items ++ l) (sym none) ∙ c.loop-at.invariant.said
