-- It happens where the share that is drawn lies below the chance.
use Rattle.std.proofs.Common.{rules}
use Rattle.iso_plan.proofs.fate.happens.Goals as goal

pub returns-clause-drawn : goal.returns-clause-drawn
returns-clause-drawn c = search rules
