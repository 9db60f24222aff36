use Rattle.std.proofs.Common.{◌≡◌, ◌≤◌, ◌*◌, take}
use Rattle.std.specs.Prelude.{sum_by}
use Rattle.iso_mix.specs.Taken.{taken_at}
use Rattle.iso_mix.proofs.taken.taken_from.Given as goal

-- what is taken of each is a u64, at most 18,446,744,073,709,551,615
abbrev pub invariant-loop-side : goal.invariant-loop-side
invariant-loop-side l = record {
  added : l.total ≡ sum_by (taken_at l.place) (take l.side-index l.sides);
  most : l.total ≤ l.side-index * 18446744073709551615;
}
