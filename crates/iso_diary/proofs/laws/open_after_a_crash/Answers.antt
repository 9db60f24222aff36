use Rattle.std.proofs.Common.{◌∙◌, refl}
use Rattle.iso_log.specs.Slots.{records_of}
use Rattle.iso_diary.specs.Notes.{diary_notes}
use Rattle.iso_diary.specs.Fronts.{ready_leaves}
use Rattle.iso_diary.proofs.laws.open_after_a_crash.Goals as goal

pub returns-in-Ok : goal.returns-in-Ok
returns-in-Ok g c = record {
  crashed = λ clean is left only.
      let seen = g.D.Disk.seen in
      let found = ready_leaves c.args.before.now.log.log is.ready (diary_notes (records_of (seen c.args.disk))) (seen c.args.disk, left, refl) in
      (found.0, c.in-Ok.ensures.notes clean only ∙ found.1);
}
