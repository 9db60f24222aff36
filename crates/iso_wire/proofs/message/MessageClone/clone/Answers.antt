-- A copy has the same type and the same elements.
use Rattle.std.proofs.Common.{rules}
use Rattle.iso_wire.proofs.message.MessageClone.clone.Goals as goal

pub returns : goal.returns
returns c = search rules
