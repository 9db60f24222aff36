use Rattle.std.proofs.Common.{◌≡◌, ℕ, List, ◌++◌}
use Rattle.std.specs.Fmt.{HasWritten, IsPlainFormatter}
use Rattle.std.specs.List.{flat_map}
use Rattle.iso_wire.specs.Debugging.{debug_element}
use Rattle.iso_wire.proofs.debugging.write_elements.Given as goal

-- what is written and what is to come are the elements
abbrev pub invariant-loop-n : goal.invariant-loop-n
invariant-loop-n g l =
    IsPlainFormatter l.initial.f →
    (so_far : List ℕ) × HasWritten g.W.Write.write_str_gives l.initial.f so_far l.f × (so_far ++ flat_map debug_element l.n-iterator ≡ flat_map debug_element l.fn.elements)
