use Rattle.std.proofs.Common.{◌≡◌, ◌≤◌, ◌-◌}
use Rattle.std.specs.Prelude.{IsTrue}
use Rattle.sqlite_disk.specs.Disk.{Only}
use Rattle.iso_log.proofs.recovery.rewrite_last.Given as goal

abbrev pub invariant-loop-place : goal.invariant-loop-place
invariant-loop-place g l = record {
  usable : IsTrue (g.D.Disk.is_usable l.disk);
  clean : IsTrue (g.D.Disk.is_clean l.disk) → IsTrue (g.D.Disk.is_clean l.fn.disk);
  same : IsTrue (g.D.Disk.is_clean l.disk) → g.D.Disk.seen l.disk ≡ g.D.Disk.seen l.fn.disk;
  left : IsTrue (g.D.Disk.is_clean l.disk) → Only (g.D.Disk.seen l.fn.disk) (g.D.Disk.may_leave l.fn.disk) → Only (g.D.Disk.seen l.fn.disk) (g.D.Disk.may_leave l.disk);
  most : l.place ≤ l.count;
}

abbrev pub decreases-loop-place : goal.decreases-loop-place
decreases-loop-place g l = l.count - l.place
