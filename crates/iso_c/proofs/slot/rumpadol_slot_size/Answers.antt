-- A slot takes the bytes of its type, which fit into the 64 that C gives.
use Rattle.std.proofs.Common.{rules}
use Rattle.iso_c.proofs.slot.rumpadol_slot_size.Goals as goal

pub returns-clause-exact : goal.returns-clause-exact
returns-clause-exact c = search rules

pub returns-clause-room : goal.returns-clause-room
returns-clause-room c = search rules
