-- The text is the JSON of the key.
use Rattle.std.proofs.Common.{arith}
use Rattle.iso_etcd.proofs.question.look_text.Goals as goal

pub returns : goal.returns
returns c = c.leaves_text.ensures (omega arith)
