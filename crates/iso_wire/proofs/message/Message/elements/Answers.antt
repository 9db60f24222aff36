use Rattle.std.proofs.Common.{ap, ◌∙◌}
use Rattle.iso_wire.specs.Elements.{has}
use Rattle.iso_wire.proofs.message.Message.elements.Goals as goal

pub returns : goal.returns
returns c = λ k. c.self.invariant.2 k ∙ ap (λ m. has m.elements k) c.self.view_is
