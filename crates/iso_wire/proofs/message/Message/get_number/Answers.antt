-- The number is the one that the element's value writes in 1 to 19 digits.
use Rattle.std.proofs.Common.{rules}
use Rattle.iso_wire.proofs.message.Message.get_number.Goals as goal

pub returns : goal.returns
returns c = search rules
