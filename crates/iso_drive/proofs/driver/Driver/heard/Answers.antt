use Rattle.std.proofs.Common.{List, refl, sym, subst}
use Rattle.iso_restarts.specs.Diary.{in_memory}
use Rattle.iso_restarts.specs.Durable.{diary_of}
use Rattle.iso_drive.specs.declared.made.Made.{Made}
use Rattle.iso_drive.specs.Made.{IsTabled}
use Rattle.iso_drive.proofs.Driven.{driving-closed}
use Rattle.iso_drive.proofs.driver.Driver.heard.Goals as goal

pub returns-in_ok-told-in-Closed-clause-driving : goal.returns-in_ok-told-in-Closed-clause-driving
returns-in_ok-told-in-Closed-clause-driving g c = λ is.
    let old = c.args.self.now in
    let d = diary_of g.L.NoteLog.synced g.L.NoteLog.pending old.acquirer in
    let slots = (in_memory d).slots in
    let closes = c.in-Closed.ensures slots (subst (λ (l : List Made). IsTabled l slots) (sym c.deref.ensures.value) is.board.tabled) in
    driving-closed c.notes.ensures.follow c.who_waits.ensures.who c.who_waits.ensures.in_time g.L.NoteLog.is_ready g.L.NoteLog.synced g.L.NoteLog.pending old
    (record { acquirer = c.told.new.self; id = old.id; board = c.settle.new.board; patience = old.patience; clock = old.clock })
    is (c.in_ok-told-in-Closed.ensures.consistent is.consistent) refl refl c.args.told.now.key c.args.told.now.code c.in-Closed.stan c.in-Closed.state
    (c.in_ok-told-in-Closed.ensures.hears is.consistent) closes
    (c.settle.ensures.board slots c.args.told.now.key c.args.told.now.code is.board closes) c.settle.ensures.waiting refl

pub returns-in-Known-clause-crash : goal.returns-in-Known-clause-crash
returns-in-Known-clause-crash g c = λ is kept left.
    c.notes.ensures.crash.heard (diary_of g.L.NoteLog.synced g.L.NoteLog.pending c.args.self.now.acquirer) c.args.told.now.key c.args.told.now.code kept
    (g.met.L.NoteLog.leaves_front c.args.self.now.acquirer.log is.consistent.ready kept left)

pub returns-in-Foreign-clause-crash : goal.returns-in-Foreign-clause-crash
returns-in-Foreign-clause-crash g c = λ is kept left.
    c.notes.ensures.crash.heard (diary_of g.L.NoteLog.synced g.L.NoteLog.pending c.args.self.now.acquirer) c.args.told.now.key c.args.told.now.code kept
    (g.met.L.NoteLog.leaves_front c.args.self.now.acquirer.log is.consistent.ready kept left)
