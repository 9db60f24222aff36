use Rattle.std.proofs.Common.{◌∙◌, ap}
use Rattle.iso_log.specs.Slots.{records_of}
use Rattle.iso_log.proofs.Pieces.{cut_left}
use Rattle.iso_log.proofs.recovery.cut_to_slots.Goals as goal

pub returns-in_default-set_len-clause-any_moment : goal.returns-in_default-set_len-clause-any_moment
returns-in_default-set_len-clause-any_moment g c = λ clean only kept here.
    let from = c.set_len.ensures.crash kept here in
    cut_left c.in-Ok.len (g.D.Disk.seen c.args.disk.now) from.0 kept (c.in-Ok.ensures.len (c.set_len.ensures.clean clean)) (only from.0 (c.len.ensures.crash from.0 from.1)) from.2

pub returns-in_default-sync-clause-any_moment : goal.returns-in_default-sync-clause-any_moment
returns-in_default-sync-clause-any_moment g c = λ clean only kept here.
    let from = c.set_len.ensures.crash kept (c.sync.ensures.crash kept here) in
    cut_left c.in-Ok.len (g.D.Disk.seen c.args.disk.now) from.0 kept (c.in-Ok.ensures.len (c.set_len.ensures.clean (c.sync.ensures.clean clean))) (only from.0 (c.len.ensures.crash from.0 from.1)) from.2

pub returns-clause-records : goal.returns-clause-records
returns-clause-records g c = λ clean.
    ap records_of c.in-Ok-sync.ensures.seen
    ∙ cut_left c.in-Ok.len (g.D.Disk.seen c.args.disk.now) (g.D.Disk.seen c.len.new.self) (g.D.Disk.seen c.set_len.new.self) (c.in-Ok.ensures.len (c.set_len.ensures.clean (c.sync.ensures.clean clean))) c.len.ensures.seen c.set_len.ensures.others

pub returns-clause-any_moment : goal.returns-clause-any_moment
returns-clause-any_moment g c = λ clean only kept here.
    let from = c.set_len.ensures.crash kept (c.sync.ensures.crash kept here) in
    cut_left c.in-Ok.len (g.D.Disk.seen c.args.disk.now) from.0 kept (c.in-Ok.ensures.len (c.set_len.ensures.clean (c.sync.ensures.clean clean))) (only from.0 (c.len.ensures.crash from.0 from.1)) from.2
