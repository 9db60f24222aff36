-- The count at a place that is there rises by one, up to its greatest.
use Rattle.std.proofs.Common.{rules}
use Rattle.iso_counts.proofs.counting.count_at.Goals as goal

pub returns-then-place-counts : goal.returns-then-place-counts
returns-then-place-counts c = search rules
