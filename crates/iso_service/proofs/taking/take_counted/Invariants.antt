use Rattle.std.proofs.Common.{◌≡◌, ◌-◌, length}
use Rattle.iso_peers.specs.Host.{IsInStep}
use Rattle.iso_peers.specs.Pieces.{TakenSoFar}
use Rattle.iso_peers.specs.Turn.{at_books}
use Rattle.iso_service.proofs.taking.take_counted.Given as goal

abbrev pub invariant-pieces : goal.invariant-pieces
invariant-pieces g l = record {
  so_far : TakenSoFar (at_books l.initial.connection l.initial.host.host) (at_books l.connection l.host.host) l.bytes l.used;
  log : l.host.log ≡ l.initial.host.log;
  kept : l.host.kept ≡ l.initial.host.kept;
  failed : l.host.has_failed ≡ l.initial.host.has_failed;
  step : IsInStep g.L.Log.is_ready g.L.Log.synced g.L.Log.pending l.initial.host → IsInStep g.L.Log.is_ready g.L.Log.synced g.L.Log.pending l.host;
}

abbrev pub decreases-pieces : goal.decreases-pieces
decreases-pieces g l = length l.bytes - l.used
