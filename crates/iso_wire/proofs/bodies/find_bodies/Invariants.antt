use Rattle.std.proofs.Common.{◌≡◌, ◌≤◌, ◌+◌, ◌*◌, length, drop}
use Rattle.iso_wire.specs.Bodies.{longest_part, wires_at}
use Rattle.iso_parts.specs.Numbers.{members}
use Rattle.iso_wire.proofs.Wires.{BodiesFound}
use Rattle.iso_wire.proofs.bodies.find_bodies.Given as goal

-- type and bitmaps take at most 36 bytes; the numbers from 2 to 128 are 127; PLACES is 129
abbrev pub invariant-loop-n : goal.invariant-loop-n
invariant-loop-n l = record {
  found : BodiesFound l.table.rows l.start l.bytes l.bodies (members l.fn.numbers) (members l.rest) l.at (wires_at l.table.rows (members l.fn.numbers) l.start (drop l.start l.bytes));
  left : l.left ≡ drop l.at l.bytes;
  room : l.at ≤ length l.bytes;
  few : l.at + longest_part * length (members l.rest) ≤ 36 + longest_part * 127;
  starts : length l.bodies.starts ≡ 129;
  sizes : length l.bodies.sizes ≡ 129;
}

abbrev pub decreases-loop-n : goal.decreases-loop-n
decreases-loop-n l = length (members l.rest)
