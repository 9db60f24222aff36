-- A body that can't be read is told with its side and the reason.
use Rattle.std.proofs.Common.{rules}
use Rattle.iso_compare.proofs.comparison.compare_others.Goals as goal

pub returns-in-No-clause-exact : goal.returns-in-No-clause-exact
returns-in-No-clause-exact c = search rules
