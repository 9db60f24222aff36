use Rattle.std.proofs.Common.{◌≡◌, ◌+◌, ◌≤◌, drop}
use Rattle.iso_input.specs.Dump.{column_from}
use Rattle.iso_input.proofs.columns.column_of.Given as goal

-- the text column doesn't begin so far
abbrev pub invariant-loop-at : goal.invariant-loop-at
invariant-loop-at l = record {
  column : column_from l.colon 0 l.line ≡ l.at + column_from l.colon l.digits (drop l.at l.line);
  digits : l.digits ≤ l.at;
}
