use Rattle.iso_order.proofs.Fits.{responses_fit_lem}
use Rattle.iso_order.proofs.laws.responses_fit.Goals as goal

pub returns : goal.returns
returns c = responses_fit_lem c.parts.ensures c.decimals.ensures
