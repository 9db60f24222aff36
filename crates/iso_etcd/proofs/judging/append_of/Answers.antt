-- Where the answer is lost, it is in doubt whether the batch stands.
use Rattle.std.proofs.Common.{rules}
use Rattle.iso_etcd.proofs.judging.append_of.Goals as goal

pub returns-in-Err-Lost : goal.returns-in-Err-Lost
returns-in-Err-Lost c = search rules
