-- Once nothing waits, the length is that of the disk below.
use Rattle.std.proofs.Common.{rules}
use Rattle.iso_gather.proofs.gathered.GatheredDiskDisk.len.Goals as goal

pub returns-clause-len : goal.returns-clause-len
returns-clause-len c = search rules
