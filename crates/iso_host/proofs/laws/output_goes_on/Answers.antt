use Rattle.iso_host.proofs.OutputLemmas.{output_none, output_more}
use Rattle.iso_host.proofs.laws.output_goes_on.Goals as goal

pub returns-clause-none : goal.returns-clause-none
returns-clause-none c = output_none

pub returns-clause-more : goal.returns-clause-more
returns-clause-more c = output_more
