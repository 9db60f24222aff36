use Rattle.std.proofs.Common.{◌≡◌, ◌≤◌, ◌++◌, drop, length}
use Rattle.iso_exchange.specs.Packed.{packed}
use Rattle.iso_exchange.proofs.packed.write_packed.Given as goal

abbrev pub decreases-loop-at : goal.decreases-loop-at
decreases-loop-at l = l.at

abbrev pub invariant-loop-at : goal.invariant-loop-at
invariant-loop-at l = record {
  within : l.at ≤ length l.out;
  written : packed l.at l.rest ++ drop l.at l.out ≡ packed (length l.out) l.number;
}
