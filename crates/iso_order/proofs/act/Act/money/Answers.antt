-- A completion is about the account, amount and currency that it tells itself.
use Rattle.std.proofs.Common.{rules}
use Rattle.iso_order.proofs.act.Act.money.Goals as goal

pub returns-in-Complete : goal.returns-in-Complete
returns-in-Complete c = search rules
