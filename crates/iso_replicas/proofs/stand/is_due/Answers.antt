-- A lease is due once a third of it has passed since it was kept.
use Rattle.std.proofs.Common.{rules}
use Rattle.iso_replicas.proofs.stand.is_due.Goals as goal

pub returns-then-kept-now : goal.returns-then-kept-now
returns-then-kept-now c = search rules
