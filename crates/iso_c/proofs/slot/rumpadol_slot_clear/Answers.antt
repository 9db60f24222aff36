-- No table is left in the slot.
use Rattle.std.proofs.Common.{rules}
use Rattle.iso_c.proofs.slot.rumpadol_slot_clear.Goals as goal

pub returns : goal.returns
returns c = search rules
