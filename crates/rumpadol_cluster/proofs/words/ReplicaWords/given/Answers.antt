-- Where no such word is found, nothing was said of a journal on etcd.
use Rattle.std.proofs.Common.{rules}
use Rattle.rumpadol_cluster.proofs.words.ReplicaWords.given.Goals as goal

pub returns-clause-none : goal.returns-clause-none
returns-clause-none c = search rules
