-- A journal is on etcd where its word begins with `etcd://`.
use Rattle.std.proofs.Common.{rules}
use Rattle.rumpadol_cluster.proofs.place.is_on_etcd.Goals as goal

pub returns : goal.returns
returns c = search rules
