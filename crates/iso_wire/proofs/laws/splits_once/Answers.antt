use Rattle.iso_wire.proofs.FrameSplits.{some_split, one_split, first_of_split, split_behind, bad_stays, cut_needs_more}
use Rattle.iso_wire.proofs.laws.splits_once.Goals as goal

pub returns-clause-some : goal.returns-clause-some
returns-clause-some c = some_split

pub returns-clause-once : goal.returns-clause-once
returns-clause-once c = one_split

pub returns-clause-first : goal.returns-clause-first
returns-clause-first c = first_of_split

pub returns-clause-behind : goal.returns-clause-behind
returns-clause-behind c = split_behind

pub returns-clause-stays : goal.returns-clause-stays
returns-clause-stays c = bad_stays

pub returns-clause-cut : goal.returns-clause-cut
returns-clause-cut c = cut_needs_more
