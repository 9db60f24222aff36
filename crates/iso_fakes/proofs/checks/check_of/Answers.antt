-- The test of a case goes on exactly where what was compared is so.
use Rattle.std.proofs.Common.{rules}
use Rattle.iso_fakes.proofs.checks.check_of.Goals as goal

pub returns-else-is_so : goal.returns-else-is_so
returns-else-is_so c = search rules
