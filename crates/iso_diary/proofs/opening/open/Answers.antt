use Rattle.std.proofs.Common.{◌∙◌, sym, ap}
use Rattle.iso_diary.specs.Notes.{diary_notes}
use Rattle.iso_diary.proofs.Scanned.{none_waits, all_synced}
use Rattle.iso_diary.proofs.opening.open.Goals as goal

pub returns-in-Ok-clause-opened : goal.returns-in-Ok-clause-opened
returns-in-Ok-clause-opened g c = λ clean only.
    let e = c.in-Ok.ensures in
    let is = e.ready clean only in
    let l = c.in-Ok.loaded in
    record {
      ready = is;
      held = sym (all_synced c.files.ensures g.D.Disk.seen g.D.Disk.may_leave g.D.Disk.is_usable c.load.new.disk l.slots l.count is.log_is) ∙ ap diary_notes (e.records clean only) ∙ sym (e.notes clean only);
      none = none_waits c.files.ensures g.D.Disk.seen g.D.Disk.may_leave g.D.Disk.is_usable c.load.new.disk l.slots l.count is.log_is;
    }
