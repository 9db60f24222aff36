use Rattle.std.proofs.Common.{List, sym, subst, ap}
use Rattle.iso_restarts.specs.declared.note.Note.{Note}
use Rattle.iso_restarts.specs.Diary.{slots_noted}
use Rattle.iso_drive.specs.declared.made.Made.{Made}
use Rattle.iso_drive.specs.Board.{IsBoard}
use Rattle.iso_drive.specs.Made.{IsTabled}
use Rattle.iso_drive.proofs.Boarded.{board-asked}
use Rattle.iso_waits.specs.Waits.{times}
use Rattle.iso_drive.proofs.board.go_through.Goals as goal

pub returns-in-TimedOut-clause-board : goal.returns-in-TimedOut-clause-board
returns-in-TimedOut-clause-board c = λ slots b.
    subst (λ (n : Note). IsBoard (record { made = c.time_out.new.made; waiting = c.make_room.new.board.waiting }) (slots_noted slots n)) (sym c.in-TimedOut.is)
    (board-asked c.args.board.now (record { made = c.time_out.new.made; waiting = c.make_room.new.board.waiting }) slots c.in-TimedOut.stan b
    (c.time_out.ensures slots (subst (λ (l : List Made). IsTabled l slots) (sym c.make_room.ensures.made) b.tabled))
    (λ n. ap (times n) c.make_room.ensures.waiting))
