-- A read gives the next bytes of the stream, and no more than the buffer holds.
use Rattle.std.proofs.Common.{rules}
use Rattle.iso_host.proofs.standard.StdInlet.read.Goals as goal

pub returns-in-Ok-clause-bound : goal.returns-in-Ok-clause-bound
returns-in-Ok-clause-bound c = search rules

pub returns-in-Ok-clause-bytes : goal.returns-in-Ok-clause-bytes
returns-in-Ok-clause-bytes c = search rules
