-- A declined payment is declined with the code exactly where that is its own.
use Rattle.std.proofs.Common.{rules}
use Rattle.iso_drive.proofs.counts.is_declined_with.Goals as goal

pub returns-in-Payment-Declined : goal.returns-in-Payment-Declined
returns-in-Payment-Declined c = search rules
