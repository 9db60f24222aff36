-- The order waits first where the first one that waits has its trace number.
use Rattle.std.proofs.Common.{rules}
use Rattle.iso_waits.proofs.due.is_first.Goals as goal

pub returns-in-Some : goal.returns-in-Some
returns-in-Some c = search rules
