-- Where the line was written, the status is the one that was given.
use Rattle.std.proofs.Common.{rules}
use Rattle.iso_cli.proofs.stop.tell_line.Goals as goal

pub returns-in-Ok-clause-told : goal.returns-in-Ok-clause-told
returns-in-Ok-clause-told g c = search rules
