use Rattle.iso_order.proofs.RequestFits.{requests_well_formed_lem}
use Rattle.iso_order.proofs.laws.requests_are_well_formed.Goals as goal

pub returns : goal.returns
returns c = requests_well_formed_lem c.decimals.ensures
