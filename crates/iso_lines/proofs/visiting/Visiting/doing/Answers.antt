-- A visitor who has an answer is written to until it is out, and then closed.
use Rattle.std.proofs.Common.{rules}
use Rattle.iso_lines.proofs.visiting.Visiting.doing.Goals as goal

pub returns-then-self-2 : goal.returns-then-self-2
returns-then-self-2 c = search rules
