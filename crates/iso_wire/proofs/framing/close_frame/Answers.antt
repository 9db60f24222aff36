-- The room in front becomes the header that counts the body behind it.
use Rattle.std.proofs.Common.{rules}
use Rattle.iso_wire.proofs.framing.close_frame.Goals as goal

pub returns-clause-ok : goal.returns-clause-ok
returns-clause-ok c = search rules
