use Rattle.std.proofs.Common.{◌≡◌}
use Rattle.iso_gather.specs.Gathered.{seen_of}
use Rattle.iso_gather.proofs.gathered.GatheredDiskDisk.read_at.Goals as goal

pub returns-clause-read : goal.returns-clause-read
returns-clause-read g c =
    let same : g.D.Disk.seen c.flush.new.self.inner ≡ seen_of c.args.self.now = rw c.in_ok-flush.ensures.empty at c.flush.ensures.seen in
    rw (← same) c.read_at.ensures.read
