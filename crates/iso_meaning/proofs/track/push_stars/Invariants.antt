use Rattle.std.proofs.Common.{◌≡◌, ◌++◌, replicate}
use Rattle.iso_meaning.proofs.track.push_stars.Given as goal

-- so many stars stand behind what was there
abbrev pub invariant-loop-i : goal.invariant-loop-i
invariant-loop-i l = l.out.items ≡ l.initial.out.items ++ replicate l._i 42
