-- A peer is full where what waits and what is held back reach the bound together.
use Rattle.std.proofs.Common.{rules}
use Rattle.iso_script_peers.proofs.standing.Bounds.is_full.Goals as goal

pub returns-else-waiting-self : goal.returns-else-waiting-self
returns-else-waiting-self c = search rules
