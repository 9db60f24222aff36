use Rattle.std.proofs.Common.{◌≡◌, take}
use Rattle.std.specs.List.{list_all}
use Rattle.iso_parts.specs.Class.{is_member}
use Rattle.iso_parts.proofs.class.CharClass.has_each.Given as goal

abbrev pub invariant-loop-b : goal.invariant-loop-b
invariant-loop-b l = l.all ≡ list_all (is_member l.self) (take l.b-index l.bytes)
