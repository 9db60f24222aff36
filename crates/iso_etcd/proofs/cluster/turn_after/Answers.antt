-- Unless this turn is the last one, the next one follows.
use Rattle.std.proofs.Common.{rules}
use Rattle.iso_etcd.proofs.cluster.turn_after.Goals as goal

pub returns-then-turn-count-2 : goal.returns-then-turn-count-2
returns-then-turn-count-2 c = search rules
