-- Members that tell two different clusters have none in common.
use Rattle.std.proofs.Common.{rules}
use Rattle.rumpadol_cluster.proofs.members.joined.Goals as goal

pub returns-in-Some-Some-2 : goal.returns-in-Some-Some-2
returns-in-Some-Some-2 c = search rules
