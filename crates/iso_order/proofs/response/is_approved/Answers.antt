-- With code 0 and a place in the journal, a message of class 1 or 2 is granted.
use Rattle.std.proofs.Common.{rules}
use Rattle.iso_order.proofs.response.is_approved.Goals as goal

pub returns-else-class-eq1 : goal.returns-else-class-eq1
returns-else-class-eq1 c = search rules

pub returns-then-class-eq1 : goal.returns-then-class-eq1
returns-then-class-eq1 c = search rules
