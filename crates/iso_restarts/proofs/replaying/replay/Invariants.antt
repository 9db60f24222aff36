use Rattle.std.proofs.Common.{◌≡◌, take}
use Rattle.iso_restarts.specs.Diary.{party_after}
use Rattle.iso_restarts.proofs.replaying.replay.Given as goal

abbrev pub invariant-loop-note : goal.invariant-loop-note
invariant-loop-note l = l.acquirer ≡ party_after l.fn.id (take l.note-index l.notes)
