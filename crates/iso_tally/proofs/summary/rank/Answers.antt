use Rattle.iso_tally.proofs.Ranks.{rank-some, rank-enough, rank-fewer}
use Rattle.iso_tally.proofs.summary.rank.Goals as goal

pub returns-clause-some : goal.returns-clause-some
returns-clause-some c = λ some. rank-some c.args.count c.args.one_in c.requires some

pub returns-clause-enough : goal.returns-clause-enough
returns-clause-enough c = rank-enough c.args.count c.args.one_in c.requires

pub returns-clause-fewer : goal.returns-clause-fewer
returns-clause-fewer c = λ some. rank-fewer c.args.count c.args.one_in c.requires some
