use Rattle.iso_table.proofs.table.Table.version.Goals as goal

pub returns-clause-good : goal.returns-clause-good
returns-clause-good c = rw (← c.self.view_is) c.self.invariant.good
