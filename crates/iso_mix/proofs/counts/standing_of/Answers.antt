-- An order without a code waits.
use Rattle.std.proofs.Common.{rules}
use Rattle.iso_mix.proofs.counts.standing_of.Goals as goal

pub returns-in-None : goal.returns-in-None
returns-in-None c = search rules
