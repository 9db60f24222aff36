use Rattle.std.proofs.Common.{◌≡◌, ◌≤◌, ◌++◌, length}
use Rattle.std.specs.List.{flat_map}
use Rattle.iso_parts.specs.Buffers.{Keeps}
use Rattle.iso_parts.specs.Numbers.{members}
use Rattle.iso_wire.specs.Ends.{elements_of, Ascend}
use Rattle.iso_wire.specs.Packing.{between}
use Rattle.iso_wire.specs.Refusal.{first_refusal}
use Rattle.iso_wire.specs.Spelling.{plain_of, Parts}
use Rattle.iso_wire.proofs.packing.append_fronts.Given as goal

abbrev pub invariant-loop-end : goal.invariant-loop-end
invariant-loop-end l =
    let todo = elements_of (members l.left) l.at l.rest l.values in
    let all = elements_of (members l.fn.numbers) 0 l.fn.ends l.values in
    let f = plain_of l.table.rows in
    record {
      written : l.out.items ++ (between l.values l.from l.at ++ flat_map f todo) ≡ l.fn.out.items ++ flat_map f all;
      order : l.from ≤ l.at;
      ascend : Ascend l.at l.rest (length l.values);
      count : length l.rest ≡ length (members l.left);
      spelled : Parts l.table.rows todo (flat_map f todo) → Parts l.table.rows all (flat_map f all);
      judged : first_refusal l.table.rows todo ≡ first_refusal l.table.rows all;
      kept : Keeps l.fn.out.items l.out.items;
    }

abbrev pub decreases-loop-end : goal.decreases-loop-end
decreases-loop-end l = length l.rest
