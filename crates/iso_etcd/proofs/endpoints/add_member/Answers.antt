use Rattle.std.proofs.Common.{arith}
use Rattle.std.proofs.lemmas.Grind.{common_steps}
use Rattle.iso_etcd.proofs.endpoints.add_member.Goals as goal

pub returns : goal.returns
returns c = (c.in_ok-member.member, grind (arith, common_steps), c.in_ok-member.ensures)
