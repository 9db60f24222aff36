-- There are tables of the versions 0, 1, 2 and 9, and of no others.
use Rattle.std.proofs.Common.{rules}
use Rattle.iso_table.proofs.placing.is_version.Goals as goal

pub returns-in-0-2 : goal.returns-in-0-2
returns-in-0-2 c = search rules
