use Rattle.iso_order.proofs.RequestVerdicts.{requests_ask_lem}
use Rattle.iso_order.proofs.laws.requests_ask.Goals as goal

pub returns : goal.returns
returns c = requests_ask_lem c.decimals.ensures
