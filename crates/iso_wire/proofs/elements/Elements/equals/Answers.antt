use Rattle.std.proofs.Common.{◌∙◌, sym, ap}
use Rattle.iso_wire.specs.Elements.{has}
use Rattle.iso_wire.proofs.Changes.{views_equal, equal_values}
use Rattle.iso_wire.proofs.elements.Elements.equals.Goals as goal

pub returns-then-equals : goal.returns-then-equals
returns-then-equals c =
    let x = c.args.self.now in
    let y = c.args.other.now in
    let agree = c.equals.ensures.0 c.if-equals.true in (
      (λ same. views_equal x y agree (c.has_values_of.ensures.0 same)),
      (λ same. c.has_values_of.ensures.1 (equal_values x y c.requires.whole c.requires.other_whole agree same)),
    )

pub returns-else-equals : goal.returns-else-equals
returns-else-equals c = (
  (λ same. absurd cc),
  (λ same. c.equals.ensures.1 (λ k. c.requires.numbered k ∙ ap (λ es. has es k) same ∙ sym (c.requires.other_numbered k))),
)
