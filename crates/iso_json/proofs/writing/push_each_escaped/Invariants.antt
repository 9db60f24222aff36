use Rattle.std.proofs.Common.{◌≡◌, ◌++◌, drop}
use Rattle.std.specs.List.{flat_map}
use Rattle.iso_parts.specs.Buffers.{Keeps}
use Rattle.iso_json.specs.Written.{escaped}
use Rattle.iso_json.proofs.writing.push_each_escaped.Given as goal

-- what was appended so far, and then what stands for the rest
abbrev pub invariant-loop-b : goal.invariant-loop-b
invariant-loop-b l = record {
  text : l.out.items ++ flat_map escaped (drop l.b-index l.bytes) ≡ l.initial.out.items ++ flat_map escaped l.bytes;
  kept : Keeps l.initial.out.items l.out.items;
}
