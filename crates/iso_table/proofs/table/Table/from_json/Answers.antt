use Rattle.iso_table.proofs.SameTable.{reads_only}
use Rattle.iso_table.proofs.table.Table.from_json.Goals as goal

pub returns-clause-only : goal.returns-clause-only
returns-clause-only c =
    let read = c.read.ensures in
    reads_only c.args.text.now c.read.result read.ok read.accepted read.not_json read.fault
