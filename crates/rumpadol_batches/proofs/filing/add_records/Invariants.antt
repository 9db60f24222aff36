use Rattle.std.proofs.Common.{◌≡◌, ◌++◌}
use Rattle.iso_log.specs.Slots.{records_of}
use Rattle.iso_log.specs.Log.{IsLog}
use Rattle.rumpadol_batches.specs.Filing.{slots_of}
use Rattle.rumpadol_batches.proofs.filing.add_records.Given as goal

abbrev pub invariant-loop-place : goal.invariant-loop-place
invariant-loop-place g l = record {
  clean : g.D.Disk.is_clean l.log.disk ≡ g.D.Disk.is_clean l.fn.log.disk;
  log : IsLog g.D.Disk.seen g.D.Disk.may_leave g.D.Disk.is_usable l.fn.log → IsLog g.D.Disk.seen g.D.Disk.may_leave g.D.Disk.is_usable l.log;
  records : IsLog g.D.Disk.seen g.D.Disk.may_leave g.D.Disk.is_usable l.fn.log
      → records_of (g.D.Disk.seen l.log.disk) ≡ records_of (g.D.Disk.seen l.fn.log.disk) ++ slots_of l.place l.records;
}
