use Rattle.iso_order.proofs.Valid.{valid-bound}
use Rattle.iso_order.proofs.order.Order.act.Goals as goal

pub returns-clause-bounded : goal.returns-clause-bounded
returns-clause-bounded c = rw (← c.self.view_is) (valid-bound (record { key = c.self.inside.key; act = c.self.inside.act }) c.self.invariant)
