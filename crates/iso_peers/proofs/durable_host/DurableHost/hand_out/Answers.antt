-- Bytes go out where the log is well and all orders are kept, and only there.
use Rattle.std.proofs.Common.{rules}
use Rattle.iso_peers.proofs.durable_host.DurableHost.hand_out.Goals as goal

pub returns-clause-kept : goal.returns-clause-kept
returns-clause-kept c = search rules
