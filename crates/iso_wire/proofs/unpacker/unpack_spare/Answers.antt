-- The message is what the bytes begin with, though its memory was another one's.
use Rattle.std.proofs.Common.{rules}
use Rattle.iso_wire.proofs.unpacker.unpack_spare.Goals as goal

pub returns-clause-exact : goal.returns-clause-exact
returns-clause-exact c = search rules
