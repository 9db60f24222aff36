use Rattle.iso_host.proofs.JournalLemmas.{bodies_go_on, body_alone, stays_without}
use Rattle.iso_host.proofs.laws.one_journal.Goals as goal

pub returns-clause-none : goal.returns-clause-none
returns-clause-none c = stays_without _ c.enters_nothing.ensures

pub returns-clause-alone : goal.returns-clause-alone
returns-clause-alone c = body_alone

pub returns-clause-more : goal.returns-clause-more
returns-clause-more c = bodies_go_on c.firsts_go_on.ensures
