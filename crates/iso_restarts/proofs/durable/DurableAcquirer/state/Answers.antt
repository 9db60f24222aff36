-- Where nothing waits, the state is the one that the kept notes tell.
use Rattle.std.proofs.Common.{rules}
use Rattle.iso_restarts.proofs.durable.DurableAcquirer.state.Goals as goal

pub returns-clause-kept : goal.returns-clause-kept
returns-clause-kept c = search rules
