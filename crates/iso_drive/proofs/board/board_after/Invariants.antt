use Rattle.std.proofs.Common.{[], take}
use Rattle.iso_restarts.specs.Diary.{slots_after}
use Rattle.iso_drive.specs.Board.{IsBoard}
use Rattle.iso_waits.specs.Waits.{AreInTime}
use Rattle.iso_drive.proofs.board.board_after.Given as goal

abbrev pub invariant-loop-note : goal.invariant-loop-note
invariant-loop-note l = record {
  board : IsBoard l.board (slots_after [] (take l.note-index l.notes));
  time : AreInTime 0 l.board.waiting.items;
}
