-- The line is the first one of the table whose numbers include the element's.
use Rattle.iso_table.proofs.edition87.line_of.Goals as goal

pub returns : goal.returns
returns c = c.line_in.ensures
