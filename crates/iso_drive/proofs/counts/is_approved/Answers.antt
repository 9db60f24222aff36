-- Of all roles only a payment in the state Approved is approved.
use Rattle.std.proofs.Common.{rules}
use Rattle.iso_drive.proofs.counts.is_approved.Goals as goal

pub returns-in-Payment-Approved : goal.returns-in-Payment-Approved
returns-in-Payment-Approved c = search rules
