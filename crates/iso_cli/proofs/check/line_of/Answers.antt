-- The line tells the table's version, its rows and the most bytes of a message.
use Rattle.std.proofs.Common.{rules}
use Rattle.iso_cli.proofs.check.line_of.Goals as goal

pub returns : goal.returns
returns c = search rules
