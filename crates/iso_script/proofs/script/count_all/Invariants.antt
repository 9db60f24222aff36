use Rattle.std.proofs.Common.{◌≡◌, ◌++◌, map, take, drop}
use Rattle.iso_script.specs.Turns.{counted}
use Rattle.iso_script.proofs.script.count_all.Given as goal

-- the rules so far have counted the message, and the others are as they were
abbrev pub invariant-loop-counted : goal.invariant-loop-counted
invariant-loop-counted l = l.rules ≡ map (counted l.message) (take l.counted-index l.fn.rules) ++ drop l.counted-index l.fn.rules
