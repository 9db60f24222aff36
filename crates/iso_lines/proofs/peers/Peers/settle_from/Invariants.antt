use Rattle.iso_lines.specs.Moment.{millis_of}
use Rattle.iso_lines.specs.Keys.{EachStaysOrGoes}
use Rattle.iso_lines.proofs.peers.Peers.settle_from.Given as goal

abbrev pub invariant-loop-place : goal.invariant-loop-place
invariant-loop-place g l = EachStaysOrGoes (millis_of l.now) l.fn.self l.self
