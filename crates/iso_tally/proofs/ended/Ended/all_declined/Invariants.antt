use Rattle.std.proofs.Common.{◌≡◌, min, sum_by, take}
use Rattle.iso_tally.specs.declared.ended.Declined.{Declined}
use Rattle.iso_tally.proofs.ended.Ended.all_declined.Given as goal

-- the sum of those so far
-- the greatest usize is 18,446,744,073,709,551,615
abbrev pub invariant-loop-of : goal.invariant-loop-of
invariant-loop-of l = l.count ≡ min (sum_by (λ (d : Declined). d.count) (take l.of-index l.self.declined.items)) 18446744073709551615
