use Rattle.std.proofs.Common.{◌≡◌, ◌++◌, drop}
use Rattle.iso_tally.specs.Histogram.{buckets_from}
use Rattle.iso_tally.proofs.bucket.buckets_between.Given as goal

-- the buckets so far, and those that the other bounds will give, are those of all bounds
abbrev pub invariant-loop-bound : goal.invariant-loop-bound
invariant-loop-bound l = l.buckets.items ++ buckets_from l.from (drop l.bound-index l.bounds) l.sorted ≡ buckets_from 0 l.bounds l.sorted
