-- The number 102 has the name of a bad message type.
use Rattle.std.proofs.Common.{rules}
use Rattle.iso_c.proofs.names.unpack_name.Goals as goal

pub returns-in-102 : goal.returns-in-102
returns-in-102 c = search rules
