-- A call about a lease takes at most a third of it, and no longer than any call.
use Rattle.std.proofs.Common.{rules}
use Rattle.rumpadol_cluster.proofs.waiting.lease_timeout.Goals as goal

pub returns : goal.returns
returns c = search rules
