-- The one that waited first now waits last, until the new moment.
use Rattle.std.proofs.Common.{rules}
use Rattle.iso_waits.proofs.due.put_off.Goals as goal

pub returns-in-Some : goal.returns-in-Some
returns-in-Some c = search rules
