use Rattle.std.proofs.Common.{sym}
use Rattle.iso_wire.proofs.judging.judge_value.Goals as goal

pub body_end-requires-clause-good : goal.body_end-requires-clause-good
body_end-requires-clause-good c = c.row.ensures.good c.args.n c.in-Some.row.now (sym c.in-Some.ensures.row)
