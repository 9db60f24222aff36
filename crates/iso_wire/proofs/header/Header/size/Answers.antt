-- A header of four ASCII digits takes four bytes.
use Rattle.std.proofs.Common.{rules}
use Rattle.iso_wire.proofs.header.Header.size.Goals as goal

pub returns-in-Ascii4 : goal.returns-in-Ascii4
returns-in-Ascii4 c = search rules
