-- The time is the one that was given or else the usual one, in milliseconds.
use Rattle.std.proofs.Common.{rules}
use Rattle.rumpadol_cluster.proofs.words.ReplicaWords.give_up.Goals as goal

pub returns : goal.returns
returns c = search rules
