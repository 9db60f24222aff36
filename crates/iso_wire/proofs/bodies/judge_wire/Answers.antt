use Rattle.std.proofs.Common.{sym}
use Rattle.iso_wire.proofs.Wires.{judged_few}
use Rattle.iso_wire.proofs.bodies.judge_wire.Goals as goal

pub judge_row-requires-clause-good : goal.judge_row-requires-clause-good
judge_row-requires-clause-good c = c.row.ensures.good c.args.n c.in-Some.row.now (sym c.in-Some.ensures.row)

pub returns-clause-few : goal.returns-clause-few
returns-clause-few c =
    judged_few c.parts.ensures c.in-Some.row.now c.args.rest.now c.judge_row.result (c.row.ensures.good c.args.n c.in-Some.row.now (sym c.in-Some.ensures.row)) c.judge_row.ensures.part
