use Rattle.std.proofs.Common.{ℕ, Bool, rules, of_calls}
use Rattle.std.specs.Prelude.{nat_lt}
use Rattle.std.proofs.lemmas.List.Sorted.{IsPartitionPoint-from_clause}
use Rattle.iso_tally.proofs.Ranks.{parted, pass-before}
use Rattle.iso_tally.proofs.bucket.count_below.Goals as goal

pub returns : goal.returns
returns c =
    let p : ℕ → Bool = λ v. nat_lt v c.args.bound in
    pass-before p c.args.sorted.now c.partition_point.result c.partition_point.ensures.bound
    (IsPartitionPoint-from_clause p c.args.sorted.now c.partition_point.result c.partition_point.ensures.partitioned
    (parted c.args.sorted.now c.args.bound c.requires.sorted) (λ a r f called. search (rules, of_calls)))
