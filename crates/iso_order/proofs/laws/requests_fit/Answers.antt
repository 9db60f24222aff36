use Rattle.iso_order.proofs.RequestFits.{requests_fit_lem}
use Rattle.iso_order.proofs.laws.requests_fit.Goals as goal

pub returns : goal.returns
returns c = requests_fit_lem c.parts.ensures c.decimals.ensures
