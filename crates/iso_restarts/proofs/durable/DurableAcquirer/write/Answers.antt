-- Once a note wasn't written, the log counts as failed for good.
use Rattle.std.proofs.Common.{rules}
use Rattle.iso_restarts.proofs.durable.DurableAcquirer.write.Goals as goal

pub returns-in-Err-clause-failed : goal.returns-in-Err-clause-failed
returns-in-Err-clause-failed c = search rules
