use Rattle.std.proofs.Common.{refl}
use Rattle.iso_issuer.proofs.GoesOn.{repeats-answered, entries-answer}
use Rattle.iso_issuer.proofs.laws.repeats_are_answered.Goals as goal

pub returns-clause-first : goal.returns-clause-first
returns-clause-first c = repeats-answered (λ o. (c.comparisons.ensures.orders o o).1 refl)

pub returns-clause-entered : goal.returns-clause-entered
returns-clause-entered c = entries-answer (λ o. (c.comparisons.ensures.orders o o).1 refl)
