-- A request over the available amount is answered 51.
use Rattle.std.proofs.Common.{rules}
use Rattle.iso_issuer.proofs.decision.amount_code.Goals as goal

pub returns-then-balance-smaller_of-clause-value : goal.returns-then-balance-smaller_of-clause-value
returns-then-balance-smaller_of-clause-value c = search rules
