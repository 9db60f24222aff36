-- While there is room, trace numbers go down from the greatest, by two for each order.
use Rattle.std.proofs.Common.{rules}
use Rattle.iso_mix.proofs.orders.next_stan.Goals as goal

pub returns-then-count-left : goal.returns-then-count-left
returns-then-count-left c = search rules
