-- A row joins the batch, or begins the next one where that is full.
use Rattle.std.proofs.Common.{rules}
use Rattle.iso_shared.proofs.log.SharedLog.add.Goals as goal

pub returns-clause-adds : goal.returns-clause-adds
returns-clause-adds c = search rules
