use Rattle.iso_wire.proofs.Longest.{ready_is_small}
use Rattle.iso_wire.proofs.unpacker.Unpacker.read_through.Goals as goal

pub read_through-requires-clause-small : goal.read_through-requires-clause-small
read_through-requires-clause-small c =
    let inside = c.self.inside in
    ready_is_small c.parts.ensures inside.table.now inside.taken.items inside.stopped c.self.invariant.0
