-- Below nine tenths of the limit nothing is reached that is told.
use Rattle.std.proofs.Common.{rules}
use Rattle.iso_lines.proofs.journal.reached.Goals as goal

pub returns : goal.returns
returns c = search rules
