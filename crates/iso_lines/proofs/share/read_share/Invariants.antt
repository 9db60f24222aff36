use Rattle.std.proofs.Common.{◌≡◌, ℕ}
use Rattle.iso_peers.specs.Host.{IsInStep}
use Rattle.iso_lines.specs.Hearing.{HearsAlone, growth}
use Rattle.iso_lines.specs.Turn.{EntersHeard}
use Rattle.iso_lines.proofs.share.read_share.Given as goal

abbrev pub invariant-loop : goal.invariant-loop
invariant-loop g l = record {
  came : (key : ℕ) → HearsAlone g.S.Read.remaining key l.initial.peer l.peer (growth l.initial.host.host l.host.host);
  heard : EntersHeard l.initial.host.host l.host.host;
  log : l.host.log ≡ l.initial.host.log;
  step : IsInStep g.L.Log.is_ready g.L.Log.synced g.L.Log.pending l.initial.host → IsInStep g.L.Log.is_ready g.L.Log.synced g.L.Log.pending l.host;
}
