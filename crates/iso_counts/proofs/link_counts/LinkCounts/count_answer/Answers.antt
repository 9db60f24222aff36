-- An answer counts by its frame's kind, its code and its time.
use Rattle.std.proofs.Common.{rules}
use Rattle.iso_counts.proofs.link_counts.LinkCounts.count_answer.Goals as goal

pub returns : goal.returns
returns c = search rules
