use Rattle.std.proofs.Common.{IsTrue, refl}
use Rattle.iso_gather.proofs.gathered.GatheredDiskDisk.write_at.Goals as goal

pub returns-clause-mixed : goal.returns-clause-mixed
returns-clause-mixed g c mixes fits left may =
    let still : IsTrue (g.D.Disk.is_mixing c.hold_back.new.self.inner) = rw c.hold_back.ensures.inner mixes in
    let step = c.write_behind-outcome.ensures.mixed still fits left may in
    (step.0, c.if-hold_back.ensures.left refl step.0 step.1, step.2)
