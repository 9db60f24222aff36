-- Where both are known, the moment is before the end if it is less.
use Rattle.std.proofs.Common.{rules}
use Rattle.iso_replicas.proofs.patience.is_before.Goals as goal

pub returns-in-Some-Some : goal.returns-in-Some-Some
returns-in-Some-Some c = search rules
