use Rattle.std.proofs.Common.{◌≡◌}
use Rattle.iso_peers.specs.Host.{IsInStep}
use Rattle.iso_lines.specs.Hearing.{HearsFirst, growth}
use Rattle.iso_lines.specs.Keys.{looked_at, AllOthersStay}
use Rattle.iso_lines.specs.Turn.{EntersHeard}
use Rattle.iso_lines.proofs.peers.Peers.read_all.Given as goal

abbrev pub invariant-loop-place : goal.invariant-loop-place
invariant-loop-place g l = record {
  turn : HearsFirst g.S.Read.remaining l.place l.fn.self l.self (growth l.initial.host.host l.host.host);
  heard : EntersHeard l.initial.host.host l.host.host;
  log : l.host.log ≡ l.initial.host.log;
  step : IsInStep g.L.Log.is_ready g.L.Log.synced g.L.Log.pending l.initial.host → IsInStep g.L.Log.is_ready g.L.Log.synced g.L.Log.pending l.host;
  others : AllOthersStay (looked_at l.fn.self) l.fn.self l.self;
  listed : l.self.listed ≡ l.fn.self.listed;
}
