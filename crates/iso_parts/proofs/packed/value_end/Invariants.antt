use Rattle.std.proofs.Common.{◌≡◌, ◌≤◌, ◌-◌, ◌*◌, length, take, drop, reverse}
use Rattle.iso_parts.specs.Part.{characters}
use Rattle.iso_parts.specs.Reading.{without_front}
use Rattle.iso_parts.proofs.packed.value_end.Given as goal

abbrev pub invariant-loop-to : goal.invariant-loop-to
invariant-loop-to l = record {
  same : without_front l.pad (reverse (take (l.to - l.from) (drop l.from (characters l.body)))) ≡ without_front l.pad (reverse (drop l.from (characters l.body)));
  behind : l.from ≤ l.to;
  within : l.to ≤ 2 * length l.body;
}

abbrev pub decreases-loop-to : goal.decreases-loop-to
decreases-loop-to l = l.to - l.from
