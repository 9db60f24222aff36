-- As many differ as were compared, less those that are the same.
use Rattle.std.proofs.Common.{rules}
use Rattle.iso_compare.proofs.tally.Tally.differ.Goals as goal

pub returns : goal.returns
returns c = search rules
