-- A peer that has room for more answers and goes on is read from.
use Rattle.std.proofs.Common.{rules}
use Rattle.iso_lines.proofs.standing.Standing.staying.Goals as goal

pub returns-then-self-limits : goal.returns-then-self-limits
returns-then-self-limits c = search rules
