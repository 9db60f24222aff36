-- Where the doubling ends, there is room for the orders and two records more.
use Rattle.std.proofs.Common.{rules}
use Rattle.rumpadol_batches.proofs.filing.slots_for.Goals as goal

pub returns-after-loop-slots : goal.returns-after-loop-slots
returns-after-loop-slots c = search rules
