-- Only the place right behind those heard of is given, and as it was asked for.
use Rattle.std.proofs.Common.{rules}
use Rattle.iso_replicas.proofs.store.EtcdStore.next.Goals as goal

pub returns : goal.returns
returns c = search rules
