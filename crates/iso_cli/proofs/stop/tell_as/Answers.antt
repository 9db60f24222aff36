use Rattle.std.proofs.Common.{inr}
use Rattle.iso_cli.proofs.stop.tell_as.Goals as goal

-- there is no memory for the line
pub returns-in-Err-clause-line : goal.returns-in-Err-clause-line
returns-in-Err-clause-line g c = inr c.tell_line-in-Err.ensures.told
