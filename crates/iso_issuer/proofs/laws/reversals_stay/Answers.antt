use Rattle.iso_issuer.proofs.Standing.{left-stays, nothing-stays, none-left, none-stays, wholly-reversed}
use Rattle.iso_issuer.proofs.laws.reversals_stay.Goals as goal

pub returns-clause-left : goal.returns-clause-left
returns-clause-left c = left-stays

pub returns-clause-reversed : goal.returns-clause-reversed
returns-clause-reversed c = nothing-stays

pub returns-clause-none : goal.returns-clause-none
returns-clause-none c = none-left

pub returns-clause-still_none : goal.returns-clause-still_none
returns-clause-still_none c = none-stays

pub returns-clause-wholly : goal.returns-clause-wholly
returns-clause-wholly c = wholly-reversed
