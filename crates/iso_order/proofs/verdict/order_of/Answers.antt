use Rattle.iso_order.proofs.CodeLemmas.{verdict_small}
use Rattle.iso_order.proofs.verdict.order_of.Goals as goal

pub returns-clause-code : goal.returns-clause-code
returns-clause-code c = rw c.verdict_of.ensures.verdict (verdict_small c.args.message.now)
