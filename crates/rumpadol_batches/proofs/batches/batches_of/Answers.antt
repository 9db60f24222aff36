-- There is a batch for each full part, and one more for what is left over.
use Rattle.std.proofs.Common.{rules}
use Rattle.rumpadol_batches.proofs.batches.batches_of.Goals as goal

pub returns : goal.returns
returns c = search rules
