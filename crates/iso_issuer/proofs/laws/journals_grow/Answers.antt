use Rattle.iso_issuer.proofs.GoesOn.{orders-of, entered-has, journals-grow}
use Rattle.iso_issuer.proofs.laws.journals_grow.Goals as goal

pub returns-clause-orders : goal.returns-clause-orders
returns-clause-orders c = orders-of

pub returns-clause-found : goal.returns-clause-found
returns-clause-found c = entered-has

pub returns-clause-grown : goal.returns-clause-grown
returns-clause-grown c = journals-grow
