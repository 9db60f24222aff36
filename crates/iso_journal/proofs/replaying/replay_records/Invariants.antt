use Rattle.std.proofs.Common.{◌≡◌, ◌≤◌, ◌-◌, ℕ, List, []}
use Rattle.std.specs.Prelude.{IsTrue}
use Rattle.iso_log.specs.Log.{IsFile}
use Rattle.iso_log.specs.Headed.{behind}
use Rattle.iso_journal.specs.Orders.{orders_of}
use Rattle.iso_journal.specs.Written.{AreWritten}
use Rattle.iso_journal.proofs.replaying.replay_records.Given as goal

abbrev pub invariant-loop-place : goal.invariant-loop-place
invariant-loop-place g l = record {
  usable : IsTrue (g.D.Disk.is_usable l.disk);
  clean : IsTrue (g.D.Disk.is_clean l.disk) → IsTrue (g.D.Disk.is_clean l.fn.disk);
  seen : g.D.Disk.seen l.disk ≡ g.D.Disk.seen l.fn.disk;
  crash : (c : List ℕ) → g.D.Disk.may_leave l.disk c → g.D.Disk.may_leave l.fn.disk c;
  accounts : l.issuer.accounts ≡ l.fn.accounts;
  limit : l.issuer.limit ≡ l.fn.limit;
  orders : IsTrue (g.D.Disk.is_clean l.disk) → (slots : ℕ) → IsFile slots l.count (g.D.Disk.seen l.fn.disk) → l.issuer.orders ≡ orders_of (behind l.place (g.D.Disk.seen l.fn.disk));
  written : IsTrue (g.D.Disk.is_clean l.disk) → (slots : ℕ) → IsFile slots l.count (g.D.Disk.seen l.fn.disk) → AreWritten l.fn.accounts l.fn.limit [] (behind l.place (g.D.Disk.seen l.fn.disk));
  least : 1 ≤ l.place;
  most : l.place ≤ l.count;
}

abbrev pub decreases-loop-place : goal.decreases-loop-place
decreases-loop-place g l = l.count - l.place
