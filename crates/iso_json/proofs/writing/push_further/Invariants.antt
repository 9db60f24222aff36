use Rattle.std.proofs.Common.{◌≡◌, ◌++◌}
use Rattle.iso_parts.specs.Buffers.{Keeps}
use Rattle.iso_json.specs.Written.{further_members}
use Rattle.iso_json.proofs.writing.push_further.Given as goal

-- the members so far, and then those of the elements that are still to come
abbrev pub invariant-loop-n : goal.invariant-loop-n
invariant-loop-n l = record {
  text : l.out.items ++ further_members l.is_clear l.table.rows l.n-iterator ≡ l.initial.out.items ++ further_members l.is_clear l.table.rows l.fn.elements;
  kept : Keeps l.initial.out.items l.out.items;
}
