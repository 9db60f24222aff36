-- The lines are the description of the message with every value in full.
use Rattle.std.proofs.Common.{rules}
use Rattle.iso_wire.proofs.describing.describe_clear.Goals as goal

pub returns : goal.returns
returns c = search rules
