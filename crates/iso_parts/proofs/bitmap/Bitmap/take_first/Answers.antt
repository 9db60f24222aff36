use Rattle.std.proofs.Common.{ℕ, ◌+◌, ◌∷◌, ◌∙◌, ap, sym}
use Rattle.iso_parts.specs.Numbers.{numbers_in}
use Rattle.iso_parts.proofs.WalkLaws.{next_first, next_second, none_left}
use Rattle.iso_parts.proofs.bitmap.Bitmap.take_first.Goals as goal

pub returns-then-self-ne0 : goal.returns-then-self-ne0
returns-then-self-ne0 c =
    let walk = c.args.self.now in
    next_first walk.primary c.take_bit-before.result.1 walk.secondary c.take_bit-before.result.0 walk.not_1 c.take_bit-before.ensures

pub returns-then-self-ne0-2 : goal.returns-then-self-ne0-2
returns-then-self-ne0-2 c =
    let walk = c.args.self.now in
    let before = c.take_bit-before-then-self-ne0-2.result.0 in
    let rest = c.take_bit-before-then-self-ne0-2.result.1 in
    let empty = c.if-self-ne0.false in
    ap (λ (w : ℕ). numbers_in w walk.secondary) empty
    ∙ next_second walk.secondary rest before c.take_bit-before-then-self-ne0-2.ensures
    ∙ ap (λ (w : ℕ). (before + 65) ∷ numbers_in w rest) (sym empty)

pub returns-else-self-ne0-2 : goal.returns-else-self-ne0-2
returns-else-self-ne0-2 c =
    let none = ap (λ (w : ℕ). numbers_in w c.args.self.now.secondary) c.if-self-ne0.false ∙ ap (numbers_in 0) c.if-self-ne0-2.false ∙ none_left in
    (none, none)
