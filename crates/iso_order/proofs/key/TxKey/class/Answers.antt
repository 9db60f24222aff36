-- The class is the second digit of the message type.
use Rattle.std.proofs.Common.{rules}
use Rattle.iso_order.proofs.key.TxKey.class.Goals as goal

pub returns : goal.returns
returns c = search rules
