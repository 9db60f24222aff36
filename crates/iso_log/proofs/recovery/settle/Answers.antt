use Rattle.std.proofs.Common.{◌∙◌, ◌*◌, sym, refl, arith, ap, subst, List, ℕ}
use Rattle.std.specs.Prelude.{IsTrue}
use Rattle.iso_log.specs.Slots.{records_of}
use Rattle.iso_log.specs.Log.{IsAtRest, IsFile, IsFirst, IsCleared}
use Rattle.iso_log.proofs.Crash.{left_same, leaves_all}
use Rattle.iso_log.proofs.Recovered.{settled_rest, settled_left, same_records_of, cleared_file, cleared_left}
use Rattle.iso_log.proofs.recovery.settle.Goals as goal
use Rattle.iso_log.proofs.recovery.settle.Given.{Over}
use Rattle.iso_log.proofs.recovery.settle.Goals.{In-Ok}

pub returns-in_err-clear_from-clause-any_moment : goal.returns-in_err-clear_from-clause-any_moment
returns-in_err-clear_from-clause-any_moment g c = λ clean rest kept here.
    let seen = g.D.Disk.seen in
    let may_leave = g.D.Disk.may_leave in
    let still = c.clear_from.ensures.clean clean in
    let same = c.in_ok-count.ensures.seen in
    let again = c.in_ok-rewrite_last.ensures.same still in
    let settled = settled_rest c.args.slots (seen c.args.disk.now) (seen c.count_records.new.disk) (seen c.rewrite_last.new.disk) (may_leave c.args.disk.now) (may_leave c.count_records.new.disk) (may_leave c.rewrite_last.new.disk)
    rest same c.in_ok-count.ensures.crash again (c.in_ok-rewrite_last.ensures.left still) in
    settled_left c.args.slots c.in_ok-count.count (seen c.args.disk.now) (seen c.count_records.new.disk) (seen c.rewrite_last.new.disk) kept same again rest.size
    (c.in_ok-count.ensures.first (c.rewrite_last.ensures.clean still)) (c.clear_from.ensures.left settled kept here)

pub returns-in_default-clause-any_moment : goal.returns-in_default-clause-any_moment
returns-in_default-clause-any_moment g c = λ clean rest kept here.
    let seen = g.D.Disk.seen in
    let may_leave = g.D.Disk.may_leave in
    let still = c.clear_from.ensures.clean (c.sync.ensures.clean clean) in
    let same = c.in_ok-count.ensures.seen in
    let again = c.in_ok-rewrite_last.ensures.same still in
    let settled = settled_rest c.args.slots (seen c.args.disk.now) (seen c.count_records.new.disk) (seen c.rewrite_last.new.disk) (may_leave c.args.disk.now) (may_leave c.count_records.new.disk) (may_leave c.rewrite_last.new.disk)
    rest same c.in_ok-count.ensures.crash again (c.in_ok-rewrite_last.ensures.left still) in
    settled_left c.args.slots c.in_ok-count.count (seen c.args.disk.now) (seen c.count_records.new.disk) (seen c.rewrite_last.new.disk) kept same again rest.size
    (c.in_ok-count.ensures.first (c.rewrite_last.ensures.clean still)) (c.clear_from.ensures.left settled kept (c.sync.ensures.crash kept here))

pub returns-clause-any_moment : goal.returns-clause-any_moment
returns-clause-any_moment g c = λ clean rest kept here.
    let seen = g.D.Disk.seen in
    let may_leave = g.D.Disk.may_leave in
    let still = c.clear_from.ensures.clean (c.sync.ensures.clean clean) in
    let same = c.in_ok-count.ensures.seen in
    let again = c.in_ok-rewrite_last.ensures.same still in
    let settled = settled_rest c.args.slots (seen c.args.disk.now) (seen c.count_records.new.disk) (seen c.rewrite_last.new.disk) (may_leave c.args.disk.now) (may_leave c.count_records.new.disk) (may_leave c.rewrite_last.new.disk)
    rest same c.in_ok-count.ensures.crash again (c.in_ok-rewrite_last.ensures.left still) in
    settled_left c.args.slots c.in_ok-count.count (seen c.args.disk.now) (seen c.count_records.new.disk) (seen c.rewrite_last.new.disk) kept same again rest.size
    (c.in_ok-count.ensures.first (c.rewrite_last.ensures.clean still)) (c.clear_from.ensures.left settled kept (c.sync.ensures.crash kept here))

-- what the slots behind the records are then
cleared : (g : Over) (c : In-Ok g) → IsTrue (g.D.Disk.is_clean c.sync.new.self) → IsAtRest c.args.slots (g.D.Disk.seen c.args.disk.now) (g.D.Disk.may_leave c.args.disk.now)
    → IsCleared (128 * c.in_ok-count.count) (128 * c.args.slots) (g.D.Disk.seen c.args.disk.now) (g.D.Disk.seen c.clear_from.new.disk)
cleared g c clean rest =
    let seen = g.D.Disk.seen in
    let may_leave = g.D.Disk.may_leave in
    let now = c.sync.ensures.clean clean in
    let still = c.clear_from.ensures.clean now in
    let same = c.in_ok-count.ensures.seen in
    let again = c.in_ok-rewrite_last.ensures.same still in
    let settled = settled_rest c.args.slots (seen c.args.disk.now) (seen c.count_records.new.disk) (seen c.rewrite_last.new.disk) (may_leave c.args.disk.now) (may_leave c.count_records.new.disk) (may_leave c.rewrite_last.new.disk)
    rest same c.in_ok-count.ensures.crash again (c.in_ok-rewrite_last.ensures.left still) in
    subst (λ (f : List ℕ). IsCleared (128 * c.in_ok-count.count) (128 * c.args.slots) f (seen c.clear_from.new.disk)) (again ∙ same) (c.in_ok-clear_from.ensures.cleared now settled)

first : (g : Over) (c : In-Ok g) → IsTrue (g.D.Disk.is_clean c.sync.new.self) → IsFirst 0 c.args.slots c.in_ok-count.count (g.D.Disk.seen c.args.disk.now)
first g c clean = c.in_ok-count.ensures.first (c.rewrite_last.ensures.clean (c.clear_from.ensures.clean (c.sync.ensures.clean clean)))

pub returns-clause-records : goal.returns-clause-records
returns-clause-records g c = λ clean rest.
    let seen = g.D.Disk.seen c.args.disk.now in
    let new = g.D.Disk.seen c.clear_from.new.disk in
    ap records_of c.sync.ensures.seen
    ∙ same_records_of c.args.slots c.in_ok-count.count seen new rest.size (first g c clean) (cleared_left c.args.slots c.in_ok-count.count seen new rest.size (cleared g c clean rest))

pub returns-clause-log : goal.returns-clause-log
returns-clause-log g c = λ clean rest.
    let e = c.in-Ok.ensures in
    let count = c.in_ok-count.count in
    let file : IsFile c.args.slots count (g.D.Disk.seen c.sync.new.self) =
    rw e.seen (cleared_file c.args.slots count (g.D.Disk.seen c.args.disk.now) (g.D.Disk.seen c.clear_from.new.disk) rest.size (first g c clean) (cleared g c clean rest)) in
    record {
      usable = rw e.usable refl;
      small = c.requires.small;
      file = file;
      some = omega arith;
      left = λ kept here. left_same (128 * count) (g.D.Disk.seen c.sync.new.self) kept (e.durable kept here ∙ sym e.seen);
      leaves = λ kept here. leaves_all c.args.slots count (g.D.Disk.seen c.sync.new.self) kept file (e.durable kept here ∙ sym e.seen);
    }
