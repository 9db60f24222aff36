-- All are answered where no hold, completion, inquiry or partial reversal waits.
use Rattle.std.proofs.Common.{rules}
use Rattle.iso_tally.proofs.mixed.Mixed.is_closed.Goals as goal

pub returns-then-self-eq0-3 : goal.returns-then-self-eq0-3
returns-then-self-eq0-3 c = search rules
