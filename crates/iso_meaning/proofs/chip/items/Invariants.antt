use Rattle.std.proofs.Common.{◌-◌, ◌≤◌, length}
use Rattle.iso_meaning.specs.Chip.{Follow}
use Rattle.iso_meaning.proofs.chip.items.Given as goal

-- the objects so far go up to the place
abbrev pub invariant-loop-at : goal.invariant-loop-at
invariant-loop-at l = record {
  low : l.at ≤ length l.bytes;
  so_far : Follow (length l.bytes) 0 l.at l.items.items;
}

abbrev pub decreases-loop-at : goal.decreases-loop-at
decreases-loop-at l = length l.bytes - l.at
