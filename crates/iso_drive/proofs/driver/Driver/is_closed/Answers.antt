use Rattle.iso_drive.proofs.Closed.{none-open, none-left}
use Rattle.iso_restarts.specs.Diary.{in_memory}
use Rattle.iso_restarts.specs.Durable.{diary_of}
use Rattle.iso_drive.proofs.driver.Driver.is_closed.Goals as goal

pub returns-clause-closed : goal.returns-clause-closed
returns-clause-closed g c = λ is.
    let slots = (in_memory (diary_of g.L.NoteLog.synced g.L.NoteLog.pending c.args.self.now.acquirer)).slots in
    let waiting = c.args.self.now.board.waiting.items in
    let who = c.who_waits.ensures.who in
    (λ h. none-open who waiting slots is.board.awaited (c.is_empty.ensures.0 h), λ closed. c.is_empty.ensures.1 (none-left who waiting slots is.board.awaited closed))
