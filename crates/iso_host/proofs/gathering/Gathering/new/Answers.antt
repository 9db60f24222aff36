use Rattle.iso_host.proofs.GatherLemmas.{none_gathered}
use Rattle.iso_host.proofs.gathering.Gathering.new.Goals as goal

pub invariant_of-result : goal.invariant_of-result
invariant_of-result c = none_gathered c.new.result c.none.result.bytes c.args.table.now c.new.ensures c.version-version.ensures.good c.none.ensures
