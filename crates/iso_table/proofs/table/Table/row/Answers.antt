use Rattle.std.proofs.Common.{rules, ◌≡◌}
use Rattle.std.specs.Option.{option_copied}
use Rattle.iso_table.specs.Layout.{row_at}
use Rattle.iso_table.proofs.table.Table.row.Goals as goal

pub returns-clause-good : goal.returns-clause-good
returns-clause-good c = rw (← c.self.view_is) c.self.invariant.good

pub returns-clause-accepted : goal.returns-clause-accepted
returns-clause-accepted c = rw (← c.self.view_is) c.self.invariant

pub returns-clause-row : goal.returns-clause-row
returns-clause-row c =
    let read : option_copied c.row_at.result ≡ row_at c.deref.result.now c.from.result = c.row_at.ensures in
    search rules
