use Rattle.std.proofs.Common.{sym}
use Rattle.iso_wire.proofs.unpacking.read_value.Goals as goal

pub read_row-requires-clause-good : goal.read_row-requires-clause-good
read_row-requires-clause-good c = c.row.ensures.good c.args.n c.in-Some.row.now (sym c.in-Some.ensures.row)
