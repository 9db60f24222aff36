-- One more visitor is let in exactly where fewer than the most are there.
use Rattle.std.proofs.Common.{rules}
use Rattle.iso_lines.proofs.visiting.lets_visit.Goals as goal

pub returns : goal.returns
returns c = search rules
