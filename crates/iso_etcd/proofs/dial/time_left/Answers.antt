-- Before the end, the time until then is left, and never more than the most.
use Rattle.std.proofs.Common.{rules}
use Rattle.iso_etcd.proofs.dial.time_left.Goals as goal

pub returns-then-now-end : goal.returns-then-now-end
returns-then-now-end c = search rules
