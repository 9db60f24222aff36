use Rattle.std.proofs.Common.{◌≤◌, length}
use Rattle.iso_json.proofs.fields.read_lines.Given as goal

-- what is left is no more than the text
abbrev pub invariant-loop-rest : goal.invariant-loop-rest
invariant-loop-rest l = length l.rest ≤ length l.text

abbrev pub decreases-loop-rest : goal.decreases-loop-rest
decreases-loop-rest l = length l.rest
