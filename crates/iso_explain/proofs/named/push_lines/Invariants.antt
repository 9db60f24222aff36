use Rattle.std.proofs.Common.{◌≡◌, ◌++◌, ℕ, List}
use Rattle.iso_explain.specs.NamedLines.{NamedLines}
use Rattle.iso_explain.proofs.named.push_lines.Given as goal

-- whatever lines the elements have that are still to come, with those so far they are the lines of all
abbrev pub invariant-loop-n : goal.invariant-loop-n
invariant-loop-n l =
    (rest : List ℕ) → NamedLines l.is_clear l.table.rows l.names l.n-iterator rest
    → (lines : List ℕ) × NamedLines l.is_clear l.table.rows l.names l.message.elements lines × (l.out.items ++ rest ≡ l.initial.out.items ++ lines)
