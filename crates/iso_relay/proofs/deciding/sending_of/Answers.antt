-- What is for all goes to all shards, and what is on no shard's account to the first one.
use Rattle.std.proofs.Common.{rules}
use Rattle.iso_relay.proofs.deciding.sending_of.Goals as goal

pub returns-in-All : goal.returns-in-All
returns-in-All c = search rules

pub returns-in-Nobody : goal.returns-in-Nobody
returns-in-Nobody c = search rules
