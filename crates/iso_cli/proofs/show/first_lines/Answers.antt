-- What is shown are the lines of the message at the front, in clear or with stars.
use Rattle.std.proofs.Common.{rules}
use Rattle.iso_cli.proofs.show.first_lines.Goals as goal

pub returns-clause-lines : goal.returns-clause-lines
returns-clause-lines c = search rules
