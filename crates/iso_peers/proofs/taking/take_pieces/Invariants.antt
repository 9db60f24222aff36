use Rattle.std.proofs.Common.{◌-◌, length}
use Rattle.iso_peers.specs.Pieces.{TakenSoFar}
use Rattle.iso_peers.specs.Turn.{at_books}
use Rattle.iso_peers.proofs.taking.take_pieces.Given as goal

abbrev pub invariant-pieces : goal.invariant-pieces
invariant-pieces l = TakenSoFar (at_books l.initial.connection l.initial.host) (at_books l.connection l.host) l.bytes l.used

abbrev pub decreases-pieces : goal.decreases-pieces
decreases-pieces l = length l.bytes - l.used
