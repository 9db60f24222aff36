-- An error that neither denies nor tells of no space leaves its status as the doubt.
use Rattle.std.proofs.Common.{rules}
use Rattle.iso_etcd.proofs.judging.doubt_of.Goals as goal

pub returns-in-Ok-false : goal.returns-in-Ok-false
returns-in-Ok-false c = search rules
