use Rattle.std.proofs.Common.{◌≡◌, length}
use Rattle.iso_peers.specs.Host.{IsInStep, IsKept}
use Rattle.iso_service.specs.Serving.{Stay}
use Rattle.iso_service.proofs.Blocks.{Going}
use Rattle.iso_service.proofs.serving.serve_kept.Given as goal

-- so many bytes are read at once: BLOCK, 65,536
abbrev pub invariant-loop : goal.invariant-loop
invariant-loop g l = record {
  table : l.connection.peer.table ≡ l.link.table;
  header : l.connection.peer.header ≡ l.link.header;
  room : length l.block.items ≡ 65536;
  going : Going l.link.table l.link.header (g.R.Inlet.remaining l.initial.reader) (g.W.Outlet.contents l.initial.writer) l.initial.host.host
      (g.R.Inlet.remaining l.reader) (g.W.Outlet.contents l.writer) l.host.host l.connection;
  kept : IsKept l.initial.host → IsKept l.host;
  step : IsInStep g.L.Log.is_ready g.L.Log.synced g.L.Log.pending l.initial.host → IsInStep g.L.Log.is_ready g.L.Log.synced g.L.Log.pending l.host;
  stay : IsInStep g.L.Log.is_ready g.L.Log.synced g.L.Log.pending l.initial.host → IsKept l.initial.host → Stay (g.L.Log.may_leave l.host.log) l.host.host;
}
