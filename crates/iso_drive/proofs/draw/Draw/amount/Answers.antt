-- No amount is drawn below the least.
use Rattle.std.proofs.Common.{rules}
use Rattle.iso_drive.proofs.draw.Draw.amount.Goals as goal

pub returns-clause-least : goal.returns-clause-least
returns-clause-least c = search rules
