-- A sync keeps all notes, and what the acquirer holds still follows from them.
use Rattle.std.proofs.Common.{rules}
use Rattle.iso_restarts.proofs.durable.DurableAcquirer.keep.Goals as goal

pub returns-clause-consistent : goal.returns-clause-consistent
returns-clause-consistent c = search rules
