use Rattle.iso_order.proofs.Telling.{responses_tell_lem}
use Rattle.iso_order.proofs.laws.responses_tell.Goals as goal

pub returns : goal.returns
returns c = responses_tell_lem c.decimals.ensures
