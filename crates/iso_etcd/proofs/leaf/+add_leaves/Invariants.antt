use Rattle.std.proofs.Common.{length}
use Rattle.iso_etcd.proofs.leaf.+add_leaves.Given as goal

abbrev pub decreases-add_leaves : goal.decreases-add_leaves
decreases-add_leaves l = length l.leaves.now
