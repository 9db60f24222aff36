use Rattle.iso_script.proofs.Turns.{turns_by_count}
use Rattle.iso_script.proofs.laws.turns_come_by_count.Goals as goal

pub returns : goal.returns
returns c = turns_by_count
