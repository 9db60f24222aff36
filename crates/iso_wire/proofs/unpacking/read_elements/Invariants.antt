use Rattle.std.proofs.Common.{◌≡◌, ◌≤◌, length, drop}
use Rattle.iso_wire.specs.Runs.{run_in, views_with, AwaitsWith}
use Rattle.iso_wire.specs.Reading.{elements_at}
use Rattle.iso_parts.specs.Numbers.{members}
use Rattle.iso_wire.proofs.Loop.{with_front}
use Rattle.iso_wire.proofs.unpacking.read_elements.Given as goal

abbrev pub invariant-loop-n : goal.invariant-loop-n
invariant-loop-n l = record {
  read : with_front (views_with l.elements (run_in l.bytes l.from l.at)) (elements_at l.table.rows (members l.rest) l.at (drop l.at l.bytes)) ≡ elements_at l.table.rows (members l.fn.numbers) l.start (drop l.start l.bytes);
  order : l.from ≤ l.at;
  room : l.at ≤ length l.bytes;
  numbers : l.elements.numbers ≡ l.fn.numbers;
  awaits : AwaitsWith l.elements (run_in l.bytes l.from l.at) (members l.rest);
}

abbrev pub decreases-loop-n : goal.decreases-loop-n
decreases-loop-n l = length (members l.rest)
