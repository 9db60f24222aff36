-- The table is that of the 1987 edition, with digits in ASCII.
use Rattle.std.proofs.Common.{rules}
use Rattle.iso_table.proofs.table.Table.ascii87.Goals as goal

pub returns : goal.returns
returns c = search rules
