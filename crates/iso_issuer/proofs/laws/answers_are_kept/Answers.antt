use Rattle.iso_issuer.proofs.GoesOn.{journals-go-on, answers-kept}
use Rattle.iso_issuer.proofs.laws.answers_are_kept.Goals as goal

pub returns-clause-journal : goal.returns-clause-journal
returns-clause-journal c = journals-go-on

pub returns-clause-entry : goal.returns-clause-entry
returns-clause-entry c = answers-kept
