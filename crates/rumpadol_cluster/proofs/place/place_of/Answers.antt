-- A place that is found has no user, and so no password.
use Rattle.std.proofs.Common.{rules}
use Rattle.rumpadol_cluster.proofs.place.place_of.Goals as goal

pub returns-in-Ok-clause-nobody : goal.returns-in-Ok-clause-nobody
returns-in-Ok-clause-nobody c = search rules
