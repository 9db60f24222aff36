use Rattle.std.proofs.Common.{◌∙◌, sym, ap}
use Rattle.iso_journal.specs.Orders.{journal_orders}
use Rattle.iso_journal.proofs.Replayed.{none_waits, all_held}
use Rattle.iso_journal.proofs.opening.open.Goals as goal

pub returns-in-Ok-clause-consistent : goal.returns-in-Ok-clause-consistent
returns-in-Ok-clause-consistent g c = λ clean only.
    let e = c.in-Ok.ensures in
    let is = e.ready clean only in
    record {
      ready = is;
      same = e.held clean only ∙ ap journal_orders (sym (e.records clean only))
          ∙ all_held c.files.ensures g.D.Disk.seen g.D.Disk.may_leave g.D.Disk.is_usable c.load.new.disk c.in-Ok.loaded.slots c.in-Ok.loaded.count is.log_is;
    }

pub returns-in-Ok-clause-none : goal.returns-in-Ok-clause-none
returns-in-Ok-clause-none g c = λ clean only.
    none_waits c.files.ensures g.D.Disk.seen g.D.Disk.may_leave g.D.Disk.is_usable c.load.new.disk c.in-Ok.loaded.slots c.in-Ok.loaded.count (c.in-Ok.ensures.ready clean only).log_is
