-- When bytes came is known, and since when a frame is unfinished.
use Rattle.std.proofs.Common.{rules}
use Rattle.iso_lines.proofs.standing.Standing.hears.Goals as goal

pub returns : goal.returns
returns c = search rules
