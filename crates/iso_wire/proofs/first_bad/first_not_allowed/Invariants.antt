use Rattle.std.proofs.Common.{◌≡◌, ◌-◌, ◌<◌, ◌≤◌, ℕ, true, length}
use Rattle.std.specs.Prelude.{slice_index}
use Rattle.iso_wire.specs.FirstBad.{rule_of, is_allowed}
use Rattle.iso_wire.proofs.first_bad.first_not_allowed.Given as goal

abbrev pub invariant-loop-at : goal.invariant-loop-at
invariant-loop-at l = record {
  before : (i : ℕ) → i < l.at → is_allowed (rule_of l.table l.row l.kind l.cause) i (slice_index l.bytes i) ≡ true;
  within : l.at ≤ length l.bytes;
}

abbrev pub decreases-loop-at : goal.decreases-loop-at
decreases-loop-at l = length l.bytes - l.at
