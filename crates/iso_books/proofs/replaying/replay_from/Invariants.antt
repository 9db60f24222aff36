use Rattle.iso_books.specs.Records.{Between}
use Rattle.iso_books.proofs.Entering.{IsOf, SoFar}
use Rattle.iso_books.proofs.replaying.replay_from.Given as goal

abbrev pub invariant-loop-count : goal.invariant-loop-count
invariant-loop-count g l = record {
  is_of : IsOf l.fn.accounts l.issuer;
  so : Between (SoFar l.fn.accounts l.count l.issuer) l.initial.window.ahead l.window.ahead;
}
