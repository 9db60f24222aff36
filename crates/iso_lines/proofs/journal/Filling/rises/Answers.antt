-- Hundredths that are reached above those told before are told now.
use Rattle.std.proofs.Common.{rules}
use Rattle.iso_lines.proofs.journal.Filling.rises.Goals as goal

pub returns-then-self-hundredths-clause-told : goal.returns-then-self-hundredths-clause-told
returns-then-self-hundredths-clause-told c = search rules
