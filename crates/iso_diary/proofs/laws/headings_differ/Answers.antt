use Rattle.iso_diary.proofs.Headings.{headings_apart}
use Rattle.iso_diary.proofs.laws.headings_differ.Goals as goal

pub returns : goal.returns
returns c = headings_apart c.decimals.ensures c.columns.ensures
