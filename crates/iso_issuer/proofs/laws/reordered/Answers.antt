use Rattle.iso_issuer.proofs.AnyOrder.{ledgers-agree, available-agree}
use Rattle.iso_issuer.proofs.laws.reordered.Goals as goal

pub returns-clause-ledger : goal.returns-clause-ledger
returns-clause-ledger c = ledgers-agree

pub returns-clause-available : goal.returns-clause-available
returns-clause-available c = available-agree
