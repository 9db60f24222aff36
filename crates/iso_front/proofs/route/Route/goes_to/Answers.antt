-- What goes to one shard goes to the place of that shard alone.
use Rattle.std.proofs.Common.{rules}
use Rattle.iso_front.proofs.route.Route.goes_to.Goals as goal

pub returns-in-One : goal.returns-in-One
returns-in-One c = search rules
