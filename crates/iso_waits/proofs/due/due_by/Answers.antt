-- Those are counted that wait for the moment or an earlier one.
use Rattle.std.proofs.Common.{rules}
use Rattle.iso_waits.proofs.due.due_by.Goals as goal

pub returns : goal.returns
returns c = search rules
