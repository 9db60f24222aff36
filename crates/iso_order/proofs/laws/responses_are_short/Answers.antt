use Rattle.iso_order.proofs.Sizes.{responses_short_lem}
use Rattle.iso_order.proofs.laws.responses_are_short.Goals as goal

pub returns : goal.returns
returns c = responses_short_lem c.parts.ensures c.bitmaps.ensures c.decimals.ensures
