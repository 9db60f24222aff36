-- Three bytes, each a letter or a digit, are the currency that they write.
use Rattle.std.proofs.Common.{arith}
use Rattle.std.proofs.lemmas.Grind.{common_steps}
use Rattle.iso_order.proofs.act.currency_of.Goals as goal

pub returns-in-len3 : goal.returns-in-len3
returns-in-len3 c = grind (arith, common_steps)
