-- A peer that ended goes once nothing waits for it; one that is read from goes when it is late.
use Rattle.std.proofs.Common.{rules}
use Rattle.iso_lines.proofs.standing.Standing.closing.Goals as goal

pub returns-in-Some : goal.returns-in-Some
returns-in-Some c = search rules

pub returns-in-None-2 : goal.returns-in-None-2
returns-in-None-2 c = search rules
