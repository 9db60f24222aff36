-- Beside the lines of text, what was counted of both lists of bodies is given.
use Rattle.std.proofs.Common.{rules}
use Rattle.iso_compare.proofs.lines.append_differences.Goals as goal

pub returns-clause-counts : goal.returns-clause-counts
returns-clause-counts c = search rules
