use Rattle.std.proofs.Common.{◌≡◌, drop}
use Rattle.iso_table.specs.Accepted.{contents}
use Rattle.rumpadol_tables.specs.Tables.{without_rows}
use Rattle.rumpadol_tables.proofs.table.new.drop_rows.Given as goal

-- the draft so far without the rows of the other elements is what is asked
abbrev pub invariant-loop-element : goal.invariant-loop-element
invariant-loop-element l = without_rows (contents l.draft) (drop l.element-index l.drops) ≡ without_rows (contents l.fn.draft) l.drops
