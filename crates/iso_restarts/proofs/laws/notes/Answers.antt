use Rattle.std.proofs.Common.{[]}
use Rattle.iso_restarts.specs.declared.note.Note.TheVariants.{Told}
use Rattle.iso_restarts.proofs.Noted.{slots-join}
use Rattle.iso_restarts.proofs.Replayed.{can-split}
use Rattle.iso_restarts.proofs.Written.{left-begins, left-times-out, left-more}
use Rattle.iso_restarts.proofs.laws.notes.Goals as goal

pub returns-clause-follow : goal.returns-clause-follow
returns-clause-follow c = record {
  behind = slots-join;
  each = λ id before more n can. can-split id [] before more n can;
}

pub returns-clause-crash : goal.returns-clause-crash
returns-clause-crash c = record {
  begun = left-begins;
  timed_out = left-times-out;
  heard = λ d key code notes left. left-more d (Told key code) notes left;
}
