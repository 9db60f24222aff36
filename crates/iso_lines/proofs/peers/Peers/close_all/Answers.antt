-- No peer is left under the keys so far.
use Rattle.std.proofs.Common.{rules}
use Rattle.iso_lines.proofs.peers.Peers.close_all.Goals as goal

pub loop-key-preserved : goal.loop-key-preserved
loop-key-preserved c = search rules
