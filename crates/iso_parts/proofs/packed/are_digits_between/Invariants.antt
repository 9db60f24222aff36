use Rattle.std.proofs.Common.{◌≡◌, ◌≤◌, ◌-◌, take, drop}
use Rattle.std.specs.List.{list_all}
use Rattle.iso_parts.specs.Class.{is_digit}
use Rattle.iso_parts.specs.Part.{characters}
use Rattle.iso_parts.proofs.packed.are_digits_between.Given as goal

abbrev pub invariant-loop-at : goal.invariant-loop-at
invariant-loop-at l = record {
  same : list_all is_digit (take (l.to - l.at) (drop l.at (characters l.body))) ≡ list_all is_digit (take (l.to - l.from) (drop l.from (characters l.body)));
  within : l.at ≤ l.to;
}

abbrev pub decreases-loop-at : goal.decreases-loop-at
decreases-loop-at l = l.to - l.at
