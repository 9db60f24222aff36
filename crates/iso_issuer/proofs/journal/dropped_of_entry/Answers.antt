-- A first reversal that leaves nothing of a completion takes it off the hold.
use Rattle.std.proofs.Common.{rules}
use Rattle.iso_issuer.proofs.journal.dropped_of_entry.Goals as goal

pub returns-then-left-eq0 : goal.returns-then-left-eq0
returns-then-left-eq0 c = search rules
