-- A shard that was asked and is silent agrees with no code.
use Rattle.std.proofs.Common.{rules}
use Rattle.iso_front.proofs.gathering.agrees.Goals as goal

pub returns-in-Nothing : goal.returns-in-Nothing
returns-in-Nothing c = search rules
