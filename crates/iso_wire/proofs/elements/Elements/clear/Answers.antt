use Rattle.iso_wire.proofs.Changes.{empty_whole}
use Rattle.iso_wire.proofs.elements.Elements.clear.Goals as goal

pub returns-clause-whole : goal.returns-clause-whole
returns-clause-whole c = empty_whole _ c.new-self.ensures c.clear-2.ensures.items c.clear.ensures.items
