-- The seconds of a lease that is kept are the number `TTL` of the member `result`.
use Rattle.std.proofs.Common.{rules}
use Rattle.iso_etcd.proofs.lease.seconds_of.Goals as goal

pub returns-in-Some-clause-found : goal.returns-in-Some-clause-found
returns-in-Some-clause-found c = search rules
