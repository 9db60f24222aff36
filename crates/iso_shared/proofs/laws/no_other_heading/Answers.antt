use Rattle.iso_shared.proofs.Headings.{heading_only}
use Rattle.iso_shared.proofs.laws.no_other_heading.Goals as goal

pub returns : goal.returns
returns c = heading_only
