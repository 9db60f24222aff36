-- Words that pass are about a journal on etcd, or say nothing of one.
use Rattle.std.proofs.Common.{rules}
use Rattle.rumpadol_cluster.proofs.words.check_words.Goals as goal

pub returns-in_default-clause-fits : goal.returns-in_default-clause-fits
returns-in_default-clause-fits c = search rules
