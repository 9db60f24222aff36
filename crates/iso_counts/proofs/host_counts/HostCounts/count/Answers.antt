-- Once the log failed, the journal can't be written; nothing else changes.
use Rattle.std.proofs.Common.{rules}
use Rattle.iso_counts.proofs.host_counts.HostCounts.count.Goals as goal

pub returns-in-LogFailed : goal.returns-in-LogFailed
returns-in-LogFailed c = search rules
