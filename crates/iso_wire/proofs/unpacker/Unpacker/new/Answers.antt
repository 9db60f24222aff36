use Rattle.iso_wire.proofs.Feeds.{start_is_short}
use Rattle.iso_wire.proofs.Resumes.{at_start}
use Rattle.iso_wire.proofs.unpacker.Unpacker.new.Goals as goal

pub invariant_of-result : goal.invariant_of-result
invariant_of-result c = (start_is_short c.args.table.now c.new.result.items c.new.ensures.items, at_start c.args.table.now c.new.result.items)
