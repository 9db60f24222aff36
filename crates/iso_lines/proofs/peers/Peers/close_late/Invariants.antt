use Rattle.iso_lines.specs.Moment.{millis_of}
use Rattle.iso_lines.specs.Keys.{EachStaysOrGoes}
use Rattle.iso_lines.proofs.peers.Peers.close_late.Given as goal

abbrev pub invariant-loop-key : goal.invariant-loop-key
invariant-loop-key g l = EachStaysOrGoes (millis_of l.now) l.fn.self l.self
