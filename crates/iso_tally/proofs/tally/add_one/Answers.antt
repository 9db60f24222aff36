-- The count is one more, or stays at the greatest.
use Rattle.std.proofs.Common.{rules}
use Rattle.iso_tally.proofs.tally.add_one.Goals as goal

pub returns : goal.returns
returns c = search rules
