use Rattle.std.proofs.Common.{arith}
use Rattle.iso_tally.proofs.Ranks.{percentile-is}
use Rattle.iso_tally.proofs.summary.percentile.Goals as goal

pub returns-clause-value : goal.returns-clause-value
returns-clause-value c =
    percentile-is c.args.sorted.now c.args.one_in c.rank-rank.result c.requires.sorted (omega arith) (omega arith)
    c.rank-rank.ensures.enough (c.rank-rank.ensures.fewer (omega arith))
