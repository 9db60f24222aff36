-- While the run is open, as many begin as the pace allows and the bound of open ones leaves.
use Rattle.std.proofs.Common.{rules}
use Rattle.iso_plan.proofs.pace.due_purchases.Goals as goal

pub returns : goal.returns
returns c = search rules
