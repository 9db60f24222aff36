-- The batch is sent if it has an order, and all that the log has seen is synced.
use Rattle.std.proofs.Common.{rules}
use Rattle.iso_shared.proofs.log.SharedLog.flush.Goals as goal

pub returns-clause-flushes : goal.returns-clause-flushes
returns-clause-flushes c = search rules
