-- The orders that were entered and are not yet kept wait.
use Rattle.std.proofs.Common.{rules}
use Rattle.iso_peers.proofs.durable_host.DurableHost.waits.Goals as goal

pub returns : goal.returns
returns c = search rules
