-- A closed peer is connected no more, and counts by why it was closed.
use Rattle.std.proofs.Common.{rules}
use Rattle.iso_counts.proofs.link_counts.LinkCounts.count_closing.Goals as goal

pub returns : goal.returns
returns c = search rules
