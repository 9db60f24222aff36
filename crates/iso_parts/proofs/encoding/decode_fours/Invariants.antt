use Rattle.std.proofs.Common.{◌≡◌, ◌++◌, length}
use Rattle.iso_parts.specs.Buffers.{Keeps}
use Rattle.iso_parts.specs.Part.{characters}
use Rattle.iso_parts.proofs.encoding.decode_fours.Given as goal

abbrev pub invariant-loop-rest : goal.invariant-loop-rest
invariant-loop-rest l = record {
  said : l.out.items ++ characters l.rest ≡ l.fn.out.items ++ characters l.bytes;
  kept : Keeps l.fn.out.items l.out.items;
}

abbrev pub decreases-loop-rest : goal.decreases-loop-rest
decreases-loop-rest l = length l.rest
