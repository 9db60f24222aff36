-- The front and the end are all that may be shown, and the rest counts as hidden.
use Rattle.std.proofs.Common.{arith}
use Rattle.std.proofs.lemmas.Grind.{common_steps}
use Rattle.iso_wire.proofs.masking.masked.Goals as goal

pub returns : goal.returns
returns c = grind (arith, common_steps)
