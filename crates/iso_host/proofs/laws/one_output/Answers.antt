use Rattle.iso_host.proofs.OutputLemmas.{output_once}
use Rattle.iso_host.proofs.laws.one_output.Goals as goal

pub returns : goal.returns
returns c = output_once c.spelled_once.ensures.once
