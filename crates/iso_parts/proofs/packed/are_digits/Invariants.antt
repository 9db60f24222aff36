use Rattle.std.proofs.Common.{◌≡◌, take}
use Rattle.std.specs.List.{list_all}
use Rattle.iso_parts.specs.Class.{is_digit}
use Rattle.iso_parts.specs.Part.{characters}
use Rattle.iso_parts.proofs.packed.are_digits.Given as goal

abbrev pub invariant-loop-b : goal.invariant-loop-b
invariant-loop-b l = l.all ≡ list_all is_digit (characters (take l.b-index l.bytes))
