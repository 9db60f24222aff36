-- A header of two bytes in binary counts up to 65,535.
use Rattle.std.proofs.Common.{rules}
use Rattle.iso_wire.proofs.header.Header.limit.Goals as goal

pub returns-in-Binary2 : goal.returns-in-Binary2
returns-in-Binary2 c = search rules
