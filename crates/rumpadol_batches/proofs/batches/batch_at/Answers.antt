-- A batch is the heading of its place and the records of that part.
use Rattle.std.proofs.Common.{rules}
use Rattle.rumpadol_batches.proofs.batches.batch_at.Goals as goal

pub returns : goal.returns
returns c = search rules
