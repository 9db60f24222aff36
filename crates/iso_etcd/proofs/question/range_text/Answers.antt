-- The text is the JSON that asks for the values from the first key up to the end.
use Rattle.std.proofs.Common.{arith}
use Rattle.iso_etcd.proofs.question.range_text.Goals as goal

pub returns : goal.returns
returns c = c.leaves_text.ensures (omega arith)
