-- Where a row doesn't tell the next place, no count is given.
use Rattle.std.proofs.Common.{rules}
use Rattle.rumpadol_batches.proofs.records.add_rows.Goals as goal

pub returns-then-ne-clause-counted : goal.returns-then-ne-clause-counted
returns-then-ne-clause-counted c = search rules
