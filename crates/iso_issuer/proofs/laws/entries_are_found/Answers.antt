use Rattle.iso_issuer.proofs.GoesOn.{key-found, found-stays, new-found}
use Rattle.iso_issuer.proofs.laws.entries_are_found.Goals as goal

pub returns-clause-key : goal.returns-clause-key
returns-clause-key c = key-found

pub returns-clause-stays : goal.returns-clause-stays
returns-clause-stays c = found-stays

pub returns-clause-new : goal.returns-clause-new
returns-clause-new c = new-found
