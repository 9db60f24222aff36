use Rattle.std.proofs.Common.{◌≡◌, ◌++◌}
use Rattle.iso_wire.specs.Describing.{element_lines}
use Rattle.iso_wire.proofs.describing.push_elements.Given as goal

-- the lines so far, and then those of the elements that are still to come
abbrev pub invariant-loop-n : goal.invariant-loop-n
invariant-loop-n l =
    l.out.items ++ element_lines l.is_clear l.table.rows l.n-iterator ≡ l.initial.out.items ++ element_lines l.is_clear l.table.rows l.message.elements
