-- Nothing is heard yet of a shard to which the order goes.
use Rattle.std.proofs.Common.{rules}
use Rattle.iso_front.proofs.gathering.at_first.Goals as goal

pub returns-then-goes_to : goal.returns-then-goes_to
returns-then-goes_to c = search rules
