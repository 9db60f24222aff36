use Rattle.iso_order.proofs.WellFormed.{responses_well_formed_lem}
use Rattle.iso_order.proofs.laws.responses_are_well_formed.Goals as goal

pub returns : goal.returns
returns c = responses_well_formed_lem
