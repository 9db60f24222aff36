use Rattle.iso_host.proofs.GatherLemmas.{none_gathered}
use Rattle.iso_host.proofs.gathering.Gathering.clear.Goals as goal

pub invariant_of-self : goal.invariant_of-self
invariant_of-self c = none_gathered c.reset.new.self c.none-self-inside.result.bytes c.self.inside.unpacker.table c.reset.ensures c.self.invariant.good c.none-self-inside.ensures
