-- The host before is waited for as long as three leases last.
use Rattle.std.proofs.Common.{rules}
use Rattle.rumpadol_cluster.proofs.waiting.longest_wait.Goals as goal

pub returns : goal.returns
returns c = search rules
