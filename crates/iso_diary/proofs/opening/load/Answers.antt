use Rattle.std.proofs.Common.{◌≡◌, ◌∙◌, ℕ, List, ap, subst}
use Rattle.iso_diary.specs.Heading.{heading_bytes}
use Rattle.iso_log.specs.Slots.{records_of}
use Rattle.iso_diary.specs.Notes.{diary_notes}
use Rattle.iso_diary.specs.Kept.{AreNotes}
use Rattle.iso_diary.specs.Why.{IsScanFault}
use Rattle.iso_diary.proofs.Scanned.{why_scan, still_only}
use Rattle.iso_diary.proofs.opening.load.Goals as goal

pub returns-in-Err-clause-fault : goal.returns-in-Err-clause-fault
returns-in-Err-clause-fault g c = λ clean only.
    let still = c.scan.ensures.clean clean in
    let found = still_only (g.D.Disk.seen c.args.disk.now) (g.D.Disk.seen c.check_heading.new.disk) (g.D.Disk.may_leave c.args.disk.now) (g.D.Disk.may_leave c.check_heading.new.disk) c.check_heading.ensures.seen c.check_heading.ensures.crash only in
    let same : records_of (g.D.Disk.seen c.recover.new.disk) ≡ records_of (g.D.Disk.seen c.args.disk.now) = c.in_ok-found.ensures.records still found ∙ ap records_of c.check_heading.ensures.seen in
    why_scan (heading_bytes c.args.heading.now) (g.D.Disk.seen c.args.disk.now) c.in-Err.error
    (subst (λ (l : List (List ℕ)). IsScanFault l c.in-Err.error) same (c.in-Err.ensures.fault clean c.in_ok-found.found.slots (c.in_ok-found.ensures.log still found).file))

pub returns-clause-notes : goal.returns-clause-notes
returns-clause-notes g c = λ clean only.
    let still = c.scan.ensures.clean clean in
    let found = still_only (g.D.Disk.seen c.args.disk.now) (g.D.Disk.seen c.check_heading.new.disk) (g.D.Disk.may_leave c.args.disk.now) (g.D.Disk.may_leave c.check_heading.new.disk) c.check_heading.ensures.seen c.check_heading.ensures.crash only in
    let same : records_of (g.D.Disk.seen c.recover.new.disk) ≡ records_of (g.D.Disk.seen c.args.disk.now) = c.in_ok-found.ensures.records still found ∙ ap records_of c.check_heading.ensures.seen in
    c.in-Ok.ensures.notes clean c.in_ok-found.found.slots (c.in_ok-found.ensures.log still found).file ∙ ap diary_notes same

pub returns-clause-read : goal.returns-clause-read
returns-clause-read g c = λ clean only.
    let still = c.scan.ensures.clean clean in
    let found = still_only (g.D.Disk.seen c.args.disk.now) (g.D.Disk.seen c.check_heading.new.disk) (g.D.Disk.may_leave c.args.disk.now) (g.D.Disk.may_leave c.check_heading.new.disk) c.check_heading.ensures.seen c.check_heading.ensures.crash only in
    let same : records_of (g.D.Disk.seen c.recover.new.disk) ≡ records_of (g.D.Disk.seen c.args.disk.now) = c.in_ok-found.ensures.records still found ∙ ap records_of c.check_heading.ensures.seen in
    subst AreNotes same (c.in-Ok.ensures.read clean c.in_ok-found.found.slots (c.in_ok-found.ensures.log still found).file)
