use Rattle.std.proofs.Common.{◌≡◌}
use Rattle.iso_lines.specs.Keys.{looked_at, AllOthersStay}
use Rattle.iso_lines.proofs.peers.Peers.write_all.Given as goal

abbrev pub invariant-loop-place : goal.invariant-loop-place
invariant-loop-place g l = record {
  others : AllOthersStay (looked_at l.fn.self) l.fn.self l.self;
  listed : l.self.listed ≡ l.fn.self.listed;
}
