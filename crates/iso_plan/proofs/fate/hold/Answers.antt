-- The delay is the least one and the share of the range that the drawn word gives.
use Rattle.std.proofs.Common.{rules}
use Rattle.iso_plan.proofs.fate.hold.Goals as goal

pub returns-clause-drawn : goal.returns-clause-drawn
returns-clause-drawn c = search rules
