-- What is left of the second is 1,000 milliseconds less those since it began.
use Rattle.std.proofs.Common.{rules}
use Rattle.iso_plan.proofs.transmission.left_of_second.Goals as goal

pub returns : goal.returns
returns c = search rules
