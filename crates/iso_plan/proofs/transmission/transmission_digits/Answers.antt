-- The digits are month, day, hour, minute and second, two of each.
use Rattle.std.proofs.Common.{rules}
use Rattle.iso_plan.proofs.transmission.transmission_digits.Goals as goal

pub returns : goal.returns
returns c = search rules
