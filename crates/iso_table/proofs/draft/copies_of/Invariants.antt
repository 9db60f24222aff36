use Rattle.std.proofs.Common.{◌≡◌, ◌++◌}
use Rattle.iso_table.proofs.draft.copies_of.Given as goal

-- what is copied and what is to come are the rows
abbrev pub invariant-loop-number : goal.invariant-loop-number
invariant-loop-number l = l.copies.items ++ l.number-iterator ≡ l.fn.rows
