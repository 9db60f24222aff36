use Rattle.std.proofs.Common.{◌≡◌, take, map}
use Rattle.iso_host.specs.Entering.{books_after_bodies}
use Rattle.iso_play.specs.Played.{AreAnswered}
use Rattle.iso_play.proofs.delivering.deliver_all.Given as goal

abbrev pub invariant-loop-body : goal.invariant-loop-body
invariant-loop-body l = record {
  books : l.host ≡ books_after_bodies l.link.table l.fn.host (map (λ body. body.items) (take l.body-index l.bodies));
  answered : AreAnswered l.link.table l.link.header l.fn.host (map (λ body. body.items) (take l.body-index l.bodies)) l.answers.items;
}
