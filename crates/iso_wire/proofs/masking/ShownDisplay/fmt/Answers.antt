-- What is written is the front, a star for each hidden byte, and the end.
use Rattle.std.proofs.Common.{arith}
use Rattle.std.proofs.lemmas.Grind.{common_steps}
use Rattle.iso_wire.proofs.masking.ShownDisplay.fmt.Goals as goal

pub returns-clause-writes : goal.returns-clause-writes
returns-clause-writes c = grind (arith, common_steps)
