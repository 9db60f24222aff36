use Rattle.std.proofs.Common.{sym}
use Rattle.iso_wire.proofs.packing.append_part.Goals as goal

pub append_by-requires-clause-good : goal.append_by-requires-clause-good
append_by-requires-clause-good c = c.row.ensures.good c.args.n c.in-Some.row.now (sym c.in-Some.ensures.row)
