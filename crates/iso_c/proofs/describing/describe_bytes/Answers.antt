-- The lines are the message's description and, last, how many bytes it took.
use Rattle.std.proofs.Common.{rules}
use Rattle.iso_c.proofs.describing.describe_bytes.Goals as goal

pub returns-clause-ok : goal.returns-clause-ok
returns-clause-ok c = search rules
