use Rattle.iso_order.proofs.Same.{same_order_iff}
use Rattle.iso_order.proofs.order.Order.is_same.Goals as goal

pub returns-clause-equal : goal.returns-clause-equal
returns-clause-equal c = same_order_iff c.args.self.now c.args.other.now c.is_same_order.result c.is_same_order.ensures
