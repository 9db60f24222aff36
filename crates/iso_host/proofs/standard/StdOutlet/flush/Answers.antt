-- A flush that fails is counted as a failure.
use Rattle.std.proofs.Common.{rules}
use Rattle.iso_host.proofs.standard.StdOutlet.flush.Goals as goal

pub returns-in-Err-clause-counts : goal.returns-in-Err-clause-counts
returns-in-Err-clause-counts c = search rules
