use Rattle.iso_issuer.proofs.GoesOn.{entering-known, entering-new, entering-distinct}
use Rattle.iso_issuer.proofs.laws.keys_stay_distinct.Goals as goal

pub returns-clause-known : goal.returns-clause-known
returns-clause-known c = entering-known

pub returns-clause-new : goal.returns-clause-new
returns-clause-new c = entering-new

pub returns-clause-distinct : goal.returns-clause-distinct
returns-clause-distinct c = entering-distinct
