use Rattle.iso_order.proofs.Decimals.{own_digits_lem}
use Rattle.iso_order.proofs.laws.acquirers_in_own_digits.Goals as goal

pub returns : goal.returns
returns c = own_digits_lem c.decimals.ensures
