use Rattle.std.proofs.Common.{◌≡◌, ◌++◌, map, take, drop}
use Rattle.iso_wire.specs.Ends.{shifted_end}
use Rattle.iso_wire.proofs.elements.move_ends.Given as goal

abbrev pub invariant-loop-end : goal.invariant-loop-end
invariant-loop-end l = l.ends ≡ map (shifted_end l.removed l.added) (take l.end-index l.fn.ends) ++ drop l.end-index l.fn.ends
