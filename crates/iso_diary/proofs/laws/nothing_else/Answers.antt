use Rattle.iso_diary.proofs.Back.{only_lines}
use Rattle.iso_diary.proofs.laws.nothing_else.Goals as goal

pub returns : goal.returns
returns c = only_lines
