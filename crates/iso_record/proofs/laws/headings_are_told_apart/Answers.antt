use Rattle.iso_record.proofs.Headings.{told_apart}
use Rattle.iso_record.proofs.laws.headings_are_told_apart.Goals as goal

pub returns : goal.returns
returns c = told_apart c.decimals.ensures
