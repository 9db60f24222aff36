-- The function is the third digit of the message type.
use Rattle.std.proofs.Common.{rules}
use Rattle.iso_order.proofs.key.TxKey.function.Goals as goal

pub returns : goal.returns
returns c = search rules
