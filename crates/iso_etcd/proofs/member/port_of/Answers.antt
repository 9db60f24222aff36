-- Digits without a leading zero that fit 16 bits are the port that they write.
use Rattle.std.proofs.Common.{rules}
use Rattle.iso_etcd.proofs.member.port_of.Goals as goal

pub returns-in-Ok-clause-found : goal.returns-in-Ok-clause-found
returns-in-Ok-clause-found c = search rules
