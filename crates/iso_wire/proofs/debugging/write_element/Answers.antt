-- An element is its number, a colon and what may be shown of its value.
use Rattle.std.proofs.Common.{rules}
use Rattle.iso_wire.proofs.debugging.write_element.Goals as goal

pub returns : goal.returns
returns c = search rules
