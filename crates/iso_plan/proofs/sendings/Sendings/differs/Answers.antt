-- An answer differs where its digest isn't that of the one that closed the transaction.
use Rattle.std.proofs.Common.{rules}
use Rattle.iso_plan.proofs.sendings.Sendings.differs.Goals as goal

pub returns-in-Some : goal.returns-in-Some
returns-in-Some c = search rules
