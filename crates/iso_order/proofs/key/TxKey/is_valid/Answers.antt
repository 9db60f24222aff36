-- A key that is valid but for its acquirer needs one of at most eleven digits.
use Rattle.std.proofs.Common.{rules}
use Rattle.iso_order.proofs.key.TxKey.is_valid.Goals as goal

pub returns-then-self-le9999999999 : goal.returns-then-self-le9999999999
returns-then-self-le9999999999 c = search rules
