-- A part is within the bytes where its start is, and its length isn't more than what is left.
use Rattle.std.proofs.Common.{rules}
use Rattle.iso_c.proofs.packing.is_part_within.Goals as goal

pub returns-else-part-size : goal.returns-else-part-size
returns-else-part-size c = search rules

pub returns-then-part-size : goal.returns-then-part-size
returns-then-part-size c = search rules
