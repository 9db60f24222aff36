-- Any code but 0, 94 and 96 declines a transaction that waits.
use Rattle.std.proofs.Common.{rules}
use Rattle.iso_drive.proofs.made.own_end.Goals as goal

pub returns-in_default : goal.returns-in_default
returns-in_default c = search rules
