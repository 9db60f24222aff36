use Rattle.std.proofs.Common.{rules}
use Rattle.iso_wire.proofs.Changes.{empty_whole}
use Rattle.iso_wire.proofs.elements.Elements.with_room.Goals as goal

pub returns-clause-whole : goal.returns-clause-whole
returns-clause-whole c = empty_whole _ c.new-numbers.ensures (search rules) (search rules)
