use Rattle.std.proofs.Common.{◌≡◌}
use Rattle.iso_drive.specs.Driving.{IsDriving, driving_of, wakes_first}
use Rattle.iso_drive.proofs.driver.Driver.wake.Given as goal

abbrev pub invariant-loop-woken : goal.invariant-loop-woken
invariant-loop-woken g l =
    IsDriving g.L.NoteLog.is_ready g.L.NoteLog.synced g.L.NoteLog.pending l.initial.self →
    IsDriving g.L.NoteLog.is_ready g.L.NoteLog.synced g.L.NoteLog.pending l.self
    × (driving_of g.L.NoteLog.synced g.L.NoteLog.pending l.self ≡ wakes_first l.woken (driving_of g.L.NoteLog.synced g.L.NoteLog.pending l.initial.self))
