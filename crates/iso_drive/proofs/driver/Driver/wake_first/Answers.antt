use Rattle.std.proofs.Common.{◌≡◌, List, [], ◌∷◌, ◌++◌, refl, ap, sym, ◌∙◌, subst, take, drop}
use Rattle.std.specs.Prelude.{Some, slice_get}
use Rattle.iso_restarts.specs.Diary.{MayLeave}
use Rattle.iso_restarts.specs.Durable.{diary_of}
use Rattle.iso_waits.specs.declared.due.Due.{Due}
use Rattle.iso_drive.specs.declared.made.Made.{Made}
use Rattle.iso_drive.specs.Driving.{times_out_all}
use Rattle.iso_waits.specs.Waits.{again}
use Rattle.iso_drive.specs.Made.{IsTabled}
use Rattle.iso_drive.proofs.Driven.{driving-asked}
use Rattle.iso_drive.proofs.driver.Driver.wake_first.Goals as goal

-- the first that waits, as it is taken
first-taken : (waiting : List Due) (d : Due) → Some d ≡ slice_get waiting 0 → take 1 waiting ≡ d ∷ []
first-taken [] d h = cc
first-taken (e ∷ ds) d h = let same : e ≡ d = cc in ap (λ x. x ∷ []) same

pub returns-in_err-make_room-clause-crash : goal.returns-in_err-make_room-clause-crash
returns-in_err-make_room-clause-crash g c = λ is kept left.
    let d = diary_of g.L.NoteLog.synced g.L.NoteLog.pending c.args.self.now.acquirer in
    subst (λ (l : List Due). MayLeave (times_out_all d l) kept) (sym (first-taken c.args.self.now.board.waiting.items c.in-Some.first c.in-Some.ensures))
    (c.notes.ensures.crash.timed_out d c.in-Some.first.stan kept (g.met.L.NoteLog.leaves_front c.args.self.now.acquirer.log is.consistent.ready kept left))

pub returns-in_err-ask-clause-crash : goal.returns-in_err-ask-clause-crash
returns-in_err-ask-clause-crash g c = λ is kept left.
    let d = diary_of g.L.NoteLog.synced g.L.NoteLog.pending c.args.self.now.acquirer in
    subst (λ (l : List Due). MayLeave (times_out_all d l) kept) (sym (first-taken c.args.self.now.board.waiting.items c.in-Some.first c.in-Some.ensures))
    (c.ask.ensures.crash is.consistent kept left)

pub returns-clause-crash : goal.returns-clause-crash
returns-clause-crash g c = λ is kept left.
    let d = diary_of g.L.NoteLog.synced g.L.NoteLog.pending c.args.self.now.acquirer in
    subst (λ (l : List Due). MayLeave (times_out_all d l) kept) (sym (first-taken c.args.self.now.board.waiting.items c.in-Some.first c.in-Some.ensures))
    (c.ask.ensures.crash is.consistent kept left)

pub returns-clause-driving : goal.returns-clause-driving
returns-clause-driving g c = λ is.
    let old = c.args.self.now in
    let at = c.moment_after.result in
    driving-asked c.notes.ensures.follow c.who_waits.ensures.who c.who_waits.ensures.in_time g.L.NoteLog.is_ready g.L.NoteLog.synced g.L.NoteLog.pending old
    (record { acquirer = c.ask.new.acquirer; id = old.id; board = record { made = c.time_out.new.made; waiting = c.put_off.new.waiting }; patience = old.patience; clock = old.clock })
    is (c.in_ok-ask.ensures.consistent is.consistent) refl refl c.in-Some.first.stan at (c.in_ok-ask.ensures.times_out is.consistent)
    (λ s t. c.time_out.ensures s (subst (λ (l : List Made). IsTabled l s) (sym c.make_room.ensures.made) t))
    (c.put_off.ensures ∙ ap (λ (l : List Due). drop 1 l ++ again at (take 1 l)) c.make_room.ensures.waiting) refl c.moment_after.ensures
