-- An order without an account goes to all shards, one on no shard's account to nobody.
use Rattle.std.proofs.Common.{rules}
use Rattle.iso_front.proofs.route.order_route.Goals as goal

pub returns-in-None : goal.returns-in-None
returns-in-None c = search rules

pub returns-in-None-shard_of : goal.returns-in-None-shard_of
returns-in-None-shard_of c = search rules
