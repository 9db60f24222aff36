-- The element has the number as its value, in decimal and with leading zeros.
use Rattle.std.proofs.Common.{rules}
use Rattle.iso_wire.proofs.message.Message.set_number.Goals as goal

pub returns-clause-ok : goal.returns-clause-ok
returns-clause-ok c = search rules
