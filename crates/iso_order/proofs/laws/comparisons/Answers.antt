use Rattle.iso_order.proofs.Same.{comparisons_lem}
use Rattle.iso_order.proofs.laws.comparisons.Goals as goal

pub returns : goal.returns
returns c = comparisons_lem
