-- The part that is added tells the element, where its value begins and how long that is.
use Rattle.std.proofs.Common.{rules}
use Rattle.iso_c.proofs.unpacking.add.Goals as goal

pub returns-clause-parts : goal.returns-clause-parts
returns-clause-parts c = search rules
