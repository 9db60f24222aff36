-- The disk below counts what it caught, and this one the writes that found no room.
use Rattle.std.proofs.Common.{rules}
use Rattle.iso_gather.proofs.gathered.GatheredDiskDisk.tally.Goals as goal

pub returns : goal.returns
returns c = search rules
