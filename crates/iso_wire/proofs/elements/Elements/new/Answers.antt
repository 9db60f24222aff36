use Rattle.iso_wire.proofs.Changes.{empty_whole}
use Rattle.iso_wire.proofs.elements.Elements.new.Goals as goal

pub returns-clause-whole : goal.returns-clause-whole
returns-clause-whole c = empty_whole _ c.new-3.ensures c.new-2.ensures.items c.new.ensures.items
