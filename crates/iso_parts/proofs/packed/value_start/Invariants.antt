use Rattle.std.proofs.Common.{◌≡◌, ◌≤◌, ◌-◌, ◌*◌, length, drop}
use Rattle.iso_parts.specs.Part.{characters}
use Rattle.iso_parts.specs.Reading.{without_front}
use Rattle.iso_parts.proofs.packed.value_start.Given as goal

abbrev pub invariant-loop-at : goal.invariant-loop-at
invariant-loop-at l = record {
  same : without_front l.pad (drop l.at (characters l.body)) ≡ without_front l.pad (drop l.from (characters l.body));
  within : l.at ≤ 2 * length l.body;
}

abbrev pub decreases-loop-at : goal.decreases-loop-at
decreases-loop-at l = 2 * length l.body - l.at
