-- With pads on the right, a place has the value's character or, behind its end, the pad.
use Rattle.std.proofs.Common.{arith}
use Rattle.std.proofs.lemmas.Grind.{common_steps}
use Rattle.iso_parts.proofs.padding.Pad.character_at.Goals as goal

pub returns-then-at-value : goal.returns-then-at-value
returns-then-at-value c = let behind = c.in-Right.is in grind (arith, common_steps)

pub returns-else-at-value : goal.returns-else-at-value
returns-else-at-value c = let behind = c.in-Right.is in grind (arith, common_steps)
