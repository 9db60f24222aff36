use Rattle.std.proofs.Common.{◌≡◌, ◌≤◌, ◌++◌, ℕ, List, length}
use Rattle.iso_wire.specs.Judging.{end_of_elements}
use Rattle.iso_parts.specs.Numbers.{members}
use Rattle.iso_wire.proofs.judging.judge_elements.Given as goal

abbrev pub invariant-loop-n : goal.invariant-loop-n
invariant-loop-n l = record {
  same : members l.walk ≡ members l.rest;
  goes_on : (x : List ℕ) → end_of_elements l.table.rows (members l.fn.numbers) l.start (l.bytes ++ x) ≡ end_of_elements l.table.rows (members l.rest) l.at (l.bytes ++ x);
  within : l.at ≤ length l.bytes;
}

abbrev pub decreases-loop-n : goal.decreases-loop-n
decreases-loop-n l = length (members l.walk)
