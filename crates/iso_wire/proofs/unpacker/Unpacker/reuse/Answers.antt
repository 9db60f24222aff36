-- What was fed stays: only the spare memory is another one.
use Rattle.std.proofs.Common.{rules}
use Rattle.iso_wire.proofs.unpacker.Unpacker.reuse.Goals as goal

pub invariant_of-self : goal.invariant_of-self
invariant_of-self c = search rules

pub returns : goal.returns
returns c = search rules
