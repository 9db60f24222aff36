use Rattle.iso_input.proofs.DumpLemmas.{dumps_come_back}
use Rattle.iso_input.proofs.laws.dumps_come_back.Goals as goal

pub returns : goal.returns
returns c = dumps_come_back
