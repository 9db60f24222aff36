-- The slot has the built-in table of that number; after a fault it is empty.
use Rattle.std.proofs.Common.{rules}
use Rattle.iso_c.proofs.slot.rumpadol_slot_built_in.Goals as goal

pub returns-in-Ok-clause-reply : goal.returns-in-Ok-clause-reply
returns-in-Ok-clause-reply c = search rules

pub returns-in-Err-clause-reply : goal.returns-in-Err-clause-reply
returns-in-Err-clause-reply c = search rules
