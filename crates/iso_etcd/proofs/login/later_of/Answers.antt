-- Where nothing was sent the second time, the first outcome counts.
use Rattle.std.proofs.Common.{rules}
use Rattle.iso_etcd.proofs.login.later_of.Goals as goal

pub returns-in-Err-Unsent : goal.returns-in-Err-Unsent
returns-in-Err-Unsent c = search rules
