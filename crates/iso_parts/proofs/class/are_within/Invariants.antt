use Rattle.std.proofs.Common.{◌≡◌, ◌&&◌, leb, take}
use Rattle.std.specs.List.{list_all}
use Rattle.iso_parts.specs.Class.{is_within}
use Rattle.iso_parts.proofs.class.are_within.Given as goal

abbrev pub invariant-loop-b : goal.invariant-loop-b
invariant-loop-b l = (leb l.low l.least && leb l.greatest l.high) ≡ list_all (is_within l.low l.high) (take l.b-index l.bytes)
