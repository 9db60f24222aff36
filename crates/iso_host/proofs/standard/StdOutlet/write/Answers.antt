-- Of at least one byte, a write that succeeds takes at least one.
use Rattle.std.proofs.Common.{rules}
use Rattle.iso_host.proofs.standard.StdOutlet.write.Goals as goal

pub returns-in-Ok-clause-some : goal.returns-in-Ok-clause-some
returns-in-Ok-clause-some c = search rules
