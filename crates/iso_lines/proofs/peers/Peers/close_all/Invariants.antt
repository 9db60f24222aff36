use Rattle.std.proofs.Common.{◌≡◌, ◌<◌, ◌⊎◌, ℕ}
use Rattle.std.specs.Prelude.{None}
use Rattle.iso_lines.specs.Keys.{peer_at}
use Rattle.iso_lines.proofs.peers.Peers.close_all.Given as goal

abbrev pub invariant-loop-key : goal.invariant-loop-key
invariant-loop-key g l = record {
  each : (k : ℕ) → (peer_at l.self k ≡ peer_at l.fn.self k) ⊎ (peer_at l.self k ≡ None);
  gone : (k : ℕ) → k < l.key → peer_at l.self k ≡ None;
}
