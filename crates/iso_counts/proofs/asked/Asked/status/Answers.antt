-- A host whose journal can't be written isn't well: 503.
use Rattle.std.proofs.Common.{rules}
use Rattle.iso_counts.proofs.asked.Asked.status.Goals as goal

pub returns-in-Health-2 : goal.returns-in-Health-2
returns-in-Health-2 c = search rules
