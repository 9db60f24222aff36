-- A member is true where it is there and says so; one that is left out is false.
use Rattle.std.proofs.Common.{rules}
use Rattle.iso_etcd.proofs.json.is_true.Goals as goal

pub returns : goal.returns
returns c = search rules
