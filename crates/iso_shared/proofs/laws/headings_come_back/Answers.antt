use Rattle.iso_shared.proofs.Headings.{heading_back}
use Rattle.iso_shared.proofs.laws.headings_come_back.Goals as goal

pub returns : goal.returns
returns c = heading_back c.decimals.ensures
