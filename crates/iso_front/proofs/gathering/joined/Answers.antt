-- Where every shard that was asked has answered, and one of them otherwise, they differ.
use Rattle.std.proofs.Common.{rules}
use Rattle.iso_front.proofs.gathering.joined.Goals as goal

pub returns-else-all_agree : goal.returns-else-all_agree
returns-else-all_agree c = search rules
