use Rattle.std.proofs.Common.{arith}
use Rattle.std.proofs.lemmas.Grind.{common_steps}
use Rattle.iso_etcd.proofs.DigitLemmas.{digits-none, digits-more}
use Rattle.iso_etcd.proofs.key.+push_digits.Goals as goal

pub returns-then-count-eq0 : goal.returns-then-count-eq0
returns-then-count-eq0 t c = grind (arith, common_steps, digits-none)

pub returns : goal.returns
returns t c = grind (arith, common_steps, digits-more)
