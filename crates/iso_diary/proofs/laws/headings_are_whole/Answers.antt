use Rattle.iso_diary.proofs.Headings.{heading_whole}
use Rattle.iso_diary.proofs.laws.headings_are_whole.Goals as goal

pub returns : goal.returns
returns c = heading_whole c.decimals.ensures c.columns.ensures
