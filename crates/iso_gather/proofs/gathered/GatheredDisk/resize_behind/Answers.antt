-- However it ends, the file has all the bytes that are known of it.
use Rattle.std.proofs.Common.{rules}
use Rattle.iso_gather.proofs.gathered.GatheredDisk.resize_behind.Goals as goal

pub invariant_of-self : goal.invariant_of-self
invariant_of-self c = search rules
