-- What is held back begins in the known bytes, or right behind those that wait.
use Rattle.std.proofs.Common.{rules}
use Rattle.iso_gather.proofs.gathered.GatheredDisk.joins.Goals as goal

pub returns-then-self-clause-first : goal.returns-then-self-clause-first
returns-then-self-clause-first c = search rules

pub returns-then-self-clause-next : goal.returns-then-self-clause-next
returns-then-self-clause-next c = search rules
