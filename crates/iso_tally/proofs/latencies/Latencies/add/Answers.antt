-- The value stands behind those that were there.
use Rattle.std.proofs.Common.{rules}
use Rattle.iso_tally.proofs.latencies.Latencies.add.Goals as goal

pub returns-clause-added : goal.returns-clause-added
returns-clause-added c = search rules
