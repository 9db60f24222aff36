use Rattle.std.proofs.Common.{refl}
use Rattle.iso_issuer.proofs.GoesOn.{answers-entered}
use Rattle.iso_issuer.proofs.laws.answers_are_entered.Goals as goal

pub returns : goal.returns
returns c = answers-entered (λ o. (c.comparisons.ensures.orders o o).1 refl)
