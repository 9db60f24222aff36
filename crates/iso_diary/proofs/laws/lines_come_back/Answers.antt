use Rattle.iso_diary.proofs.Back.{line_back}
use Rattle.iso_diary.proofs.laws.lines_come_back.Goals as goal

pub returns : goal.returns
returns c = line_back c.decimals.ensures c.columns.ensures c.rows_come_back.ensures c.rows_are_whole.ensures
