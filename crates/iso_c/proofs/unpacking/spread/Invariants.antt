use Rattle.std.proofs.Common.{◌≡◌, ◌++◌, length}
use Rattle.iso_c.specs.Parts.{parts_from, values_of}
use Rattle.iso_c.proofs.unpacking.spread.Given as goal

-- the parts and the values so far, and then those of the elements that are still to come
abbrev pub invariant-loop-n : goal.invariant-loop-n
invariant-loop-n l = record {
  parts : l.parts.items ++ parts_from (length l.values.items) l.n-iterator ≡ parts_from 0 l.message.elements;
  values : l.values.items ++ values_of l.n-iterator ≡ values_of l.message.elements;
}
