use Rattle.iso_diary.proofs.Back.{line_whole}
use Rattle.iso_diary.proofs.laws.lines_are_whole.Goals as goal

pub returns : goal.returns
returns c = line_whole c.decimals.ensures c.columns.ensures c.rows_come_back.ensures c.rows_are_whole.ensures
