use Rattle.std.proofs.Common.{◌≡◌, ◌++◌, ◌-◌, length, drop}
use Rattle.iso_peers.proofs.keeping.append_from.Given as goal

abbrev pub invariant-loop-place : goal.invariant-loop-place
invariant-loop-place g l = record {
  ready : g.L.Log.is_ready l.initial.log → g.L.Log.is_ready l.log;
  synced : g.L.Log.is_ready l.initial.log → g.L.Log.synced l.log ≡ g.L.Log.synced l.initial.log;
  pending : g.L.Log.is_ready l.initial.log → g.L.Log.pending l.log ++ drop l.place l.orders ≡ g.L.Log.pending l.initial.log ++ drop l.kept l.orders;
}

abbrev pub decreases-loop-place : goal.decreases-loop-place
decreases-loop-place g l = length l.orders - l.place
