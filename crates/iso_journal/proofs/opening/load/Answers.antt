use Rattle.std.proofs.Common.{◌≡◌, ◌∙◌, ℕ, List, ap, subst}
use Rattle.iso_record.specs.Heading.{heading_bytes}
use Rattle.iso_log.specs.Slots.{records_of}
use Rattle.iso_journal.specs.Orders.{journal_orders}
use Rattle.iso_journal.specs.Written.{IsReplayed}
use Rattle.iso_journal.specs.Why.{IsReplayFault}
use Rattle.iso_journal.proofs.Replayed.{why_replay, still_only}
use Rattle.iso_journal.proofs.opening.load.Goals as goal

pub returns-in-Err-clause-fault : goal.returns-in-Err-clause-fault
returns-in-Err-clause-fault g c = λ clean only.
    let still = c.replay_records.ensures.clean clean in
    let found = still_only (g.D.Disk.seen c.args.disk.now) (g.D.Disk.seen c.check_heading.new.disk) (g.D.Disk.may_leave c.args.disk.now) (g.D.Disk.may_leave c.check_heading.new.disk) c.check_heading.ensures.seen c.check_heading.ensures.crash only in
    let same : records_of (g.D.Disk.seen c.recover.new.disk) ≡ records_of (g.D.Disk.seen c.args.disk.now) = c.in_ok-found.ensures.records still found ∙ ap records_of c.check_heading.ensures.seen in
    why_replay c.args.accounts c.args.limit (heading_bytes c.args.heading.now) (g.D.Disk.seen c.args.disk.now) c.in-Err.error
    (subst (λ (l : List (List ℕ)). IsReplayFault c.args.accounts c.args.limit l c.in-Err.error) same (c.in-Err.ensures.fault clean c.in_ok-found.found.slots (c.in_ok-found.ensures.log still found).file))

pub returns-clause-held : goal.returns-clause-held
returns-clause-held g c = λ clean only.
    let still = c.replay_records.ensures.clean clean in
    let found = still_only (g.D.Disk.seen c.args.disk.now) (g.D.Disk.seen c.check_heading.new.disk) (g.D.Disk.may_leave c.args.disk.now) (g.D.Disk.may_leave c.check_heading.new.disk) c.check_heading.ensures.seen c.check_heading.ensures.crash only in
    let same : records_of (g.D.Disk.seen c.recover.new.disk) ≡ records_of (g.D.Disk.seen c.args.disk.now) = c.in_ok-found.ensures.records still found ∙ ap records_of c.check_heading.ensures.seen in
    c.in-Ok.ensures.orders clean c.in_ok-found.found.slots (c.in_ok-found.ensures.log still found).file ∙ ap journal_orders same

pub returns-clause-written : goal.returns-clause-written
returns-clause-written g c = λ clean only.
    let still = c.replay_records.ensures.clean clean in
    let found = still_only (g.D.Disk.seen c.args.disk.now) (g.D.Disk.seen c.check_heading.new.disk) (g.D.Disk.may_leave c.args.disk.now) (g.D.Disk.may_leave c.check_heading.new.disk) c.check_heading.ensures.seen c.check_heading.ensures.crash only in
    let same : records_of (g.D.Disk.seen c.recover.new.disk) ≡ records_of (g.D.Disk.seen c.args.disk.now) = c.in_ok-found.ensures.records still found ∙ ap records_of c.check_heading.ensures.seen in
    subst (IsReplayed c.args.accounts c.args.limit) same (c.in-Ok.ensures.written clean c.in_ok-found.found.slots (c.in_ok-found.ensures.log still found).file)
