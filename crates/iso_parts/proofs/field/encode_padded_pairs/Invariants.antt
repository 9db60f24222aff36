use Rattle.std.proofs.Common.{◌≡◌, ◌≤◌, ◌+◌, ◌-◌, ◌++◌, drop}
use Rattle.iso_parts.specs.Buffers.{Keeps}
use Rattle.iso_parts.specs.Part.{with_padding, pairs}
use Rattle.iso_parts.proofs.field.encode_padded_pairs.Given as goal

abbrev pub invariant-loop-at : goal.invariant-loop-at
invariant-loop-at l = record {
  said : l.out.items ++ pairs (drop l.at (with_padding l.spec l.value)) ≡ l.fn.out.items ++ pairs (drop l.from (with_padding l.spec l.value));
  within : l.at ≤ l.count + 1;
  kept : Keeps l.fn.out.items l.out.items;
}

abbrev pub decreases-loop-at : goal.decreases-loop-at
decreases-loop-at l = l.count - l.at
