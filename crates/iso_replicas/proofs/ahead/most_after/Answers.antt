-- By the mean size on a page, so many are asked for as fit, within both bounds.
use Rattle.std.proofs.Common.{rules}
use Rattle.iso_replicas.proofs.ahead.most_after.Goals as goal

pub returns : goal.returns
returns c = search rules
