use Rattle.std.proofs.Common.{◌≡◌, ◌++◌, replicate}
use Rattle.iso_parts.specs.Buffers.{Keeps}
use Rattle.iso_json.proofs.writing.push_stars.Given as goal

-- the stars so far, and then the others
abbrev pub invariant-loop-left : goal.invariant-loop-left
invariant-loop-left l = record {
  text : l.out.items ++ replicate l.left 42 ≡ l.initial.out.items ++ replicate l.fn.count 42;
  kept : Keeps l.initial.out.items l.out.items;
}

abbrev pub decreases-loop-left : goal.decreases-loop-left
decreases-loop-left l = l.left
