use Rattle.iso_wire.proofs.RunLaws.{run_longer}
use Rattle.iso_wire.proofs.runs.start_run.Goals as goal

pub returns-then-body-eq0-clause-run : goal.returns-then-body-eq0-clause-run
returns-then-body-eq0-clause-run c = λ to high.
    run_longer c.args.elements.now.values.items c.args.bytes.now c.args.from c.args.at c.args.body to c.if-body-eq0.true c.requires.order high
