-- The text is the JSON of the name and the password.
use Rattle.std.proofs.Common.{arith}
use Rattle.iso_etcd.proofs.question.login_text.Goals as goal

pub returns : goal.returns
returns c = c.leaves_text.ensures (omega arith)
