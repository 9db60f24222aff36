-- A peer within both limits, of a frame and of silence, isn't late.
use Rattle.std.proofs.Common.{rules}
use Rattle.iso_lines.proofs.standing.Standing.late.Goals as goal

pub returns : goal.returns
returns c = search rules
