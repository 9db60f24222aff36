use Rattle.std.proofs.Common.{◌≡◌, ◌++◌}
use Rattle.iso_log.specs.Slots.{slots_from}
use Rattle.iso_diary.specs.Notes.{notes_of}
use Rattle.iso_diary.specs.Kept.{AreLines}
use Rattle.iso_diary.proofs.scanning.scan_piece.Given as goal

abbrev pub invariant-loop-place : goal.invariant-loop-place
invariant-loop-place l = record {
  notes : l.notes.items ≡ l.fn.notes.items ++ notes_of (slots_from l.place 0 l.piece);
  read : AreLines l.fn.first (slots_from l.place 0 l.piece);
}
