-- An answer differs where its code isn't the first one's.
use Rattle.std.proofs.Common.{rules}
use Rattle.iso_mix.proofs.hearing.hearing_by.Goals as goal

pub returns-else-first-code : goal.returns-else-first-code
returns-else-first-code c = search rules
