use Rattle.std.proofs.Common.{sym}
use Rattle.iso_wire.proofs.runs.append_element.Goals as goal

pub append_bare-requires-clause-good : goal.append_bare-requires-clause-good
append_bare-requires-clause-good c = c.row.ensures.good c.args.n c.in-Some.row.now (sym c.in-Some.ensures.row)

pub append_spelled-requires-clause-good : goal.append_spelled-requires-clause-good
append_spelled-requires-clause-good c = c.row.ensures.good c.args.n c.in-Some.row.now (sym c.in-Some.ensures.row)
