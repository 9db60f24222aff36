use Rattle.iso_cli.proofs.CommandLemmas.{asks_nothing}
use Rattle.iso_cli.proofs.words.job_of.Goals as goal

pub returns-in-None-clause-none : goal.returns-in-None-clause-none
returns-in-None-clause-none c = asks_nothing _ _ c.in-None.ensures.none c.run_of.ensures.none
