use Rattle.std.proofs.Common.{◌≡◌, ◌+◌, ◌≤◌, map, length}
use Rattle.std.specs.Prelude.{count_by, zip}
use Rattle.iso_compare.specs.Tallying.{are_same}
use Rattle.iso_compare.proofs.tally.count_same.Given as goal

abbrev pub invariant-loop-wanted : goal.invariant-loop-wanted
invariant-loop-wanted l =
    (l.same + count_by are_same (zip (map (λ b. b.now) l.wanted) (map (λ b. b.now) l.given))
    ≡ count_by are_same (zip (map (λ b. b.now) l.expected) (map (λ b. b.now) l.came)))
    × (l.same + length l.wanted ≤ length l.expected)

abbrev pub decreases-loop-wanted : goal.decreases-loop-wanted
decreases-loop-wanted l = length l.wanted
