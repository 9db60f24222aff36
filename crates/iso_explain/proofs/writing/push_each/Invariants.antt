use Rattle.std.proofs.Common.{◌≡◌, ◌++◌, replicate}
use Rattle.iso_explain.proofs.writing.push_each.Given as goal

-- so many of the byte stand behind what was there
abbrev pub invariant-loop-i : goal.invariant-loop-i
invariant-loop-i l = l.out.items ≡ l.initial.out.items ++ replicate l._i l.byte
