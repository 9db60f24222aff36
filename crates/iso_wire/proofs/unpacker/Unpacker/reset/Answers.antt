use Rattle.std.proofs.Common.{rules}
use Rattle.iso_wire.proofs.Feeds.{start_is_short}
use Rattle.iso_wire.proofs.Resumes.{at_start}
use Rattle.iso_wire.proofs.unpacker.Unpacker.reset.Goals as goal

pub invariant_of-self : goal.invariant_of-self
invariant_of-self c = (start_is_short c.self.inside.table.now c.clear.new.self.items c.clear.ensures.items, at_start c.self.inside.table.now c.clear.new.self.items)

pub returns : goal.returns
returns c = search rules
