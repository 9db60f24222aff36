-- A value is what may be read of its front, stars for what is hidden, and its end.
use Rattle.std.proofs.Common.{arith}
use Rattle.std.proofs.lemmas.Grind.{common_steps}
use Rattle.iso_wire.proofs.describing.push_value.Goals as goal

pub returns : goal.returns
returns c = grind (arith, common_steps)
