-- Elements with the same ends have the same values where all bytes are the same.
use Rattle.std.proofs.Common.{rules}
use Rattle.iso_wire.proofs.elements.Elements.has_values_of.Goals as goal

pub returns-then-same_ends : goal.returns-then-same_ends
returns-then-same_ends c = search rules
