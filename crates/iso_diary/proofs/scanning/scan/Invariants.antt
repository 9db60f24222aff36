use Rattle.std.proofs.Common.{◌≡◌, ◌≤◌, ◌-◌, ℕ, List}
use Rattle.std.specs.Prelude.{IsTrue}
use Rattle.iso_log.specs.Log.{IsFile}
use Rattle.iso_log.specs.Headed.{behind}
use Rattle.iso_diary.specs.Notes.{notes_of}
use Rattle.iso_diary.specs.Kept.{AreLines}
use Rattle.iso_diary.proofs.scanning.scan.Given as goal

abbrev pub invariant-loop-place : goal.invariant-loop-place
invariant-loop-place g l = record {
  usable : IsTrue (g.D.Disk.is_usable l.disk);
  clean : IsTrue (g.D.Disk.is_clean l.disk) → IsTrue (g.D.Disk.is_clean l.fn.disk);
  seen : g.D.Disk.seen l.disk ≡ g.D.Disk.seen l.fn.disk;
  crash : (c : List ℕ) → g.D.Disk.may_leave l.disk c → g.D.Disk.may_leave l.fn.disk c;
  notes : IsTrue (g.D.Disk.is_clean l.disk) → (slots : ℕ) → IsFile slots l.count (g.D.Disk.seen l.fn.disk) → l.notes.items ≡ notes_of (behind l.place (g.D.Disk.seen l.fn.disk));
  read : IsTrue (g.D.Disk.is_clean l.disk) → (slots : ℕ) → IsFile slots l.count (g.D.Disk.seen l.fn.disk) → AreLines 1 (behind l.place (g.D.Disk.seen l.fn.disk));
  least : 1 ≤ l.place;
  most : l.place ≤ l.count;
}

abbrev pub decreases-loop-place : goal.decreases-loop-place
decreases-loop-place g l = l.count - l.place
