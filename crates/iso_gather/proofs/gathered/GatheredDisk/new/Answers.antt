-- A new one knows of no bytes and has none that wait: it is sound over any disk.
use Rattle.std.proofs.Common.{rules}
use Rattle.iso_gather.proofs.gathered.GatheredDisk.new.Goals as goal

pub invariant_of-result : goal.invariant_of-result
invariant_of-result c = search rules
