use Rattle.std.proofs.Common.{length}
use Rattle.iso_parts.specs.Numbers.{members}
use Rattle.iso_wire.proofs.ViewedValues.{within_more}
use Rattle.iso_wire.proofs.bodies.View.iter.Goals as goal

pub of-requires : goal.of-requires
of-requires c =
    let it = c.self.inside in
    within_more it.outline.used (length it.bytes.now) it.bodies (members it.outline.numbers) c.self.invariant.0 c.self.invariant.1
