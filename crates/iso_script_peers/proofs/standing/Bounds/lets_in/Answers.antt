-- One more peer is let in exactly while there are fewer than the bound.
use Rattle.std.proofs.Common.{rules}
use Rattle.iso_script_peers.proofs.standing.Bounds.lets_in.Goals as goal

pub returns : goal.returns
returns c = search rules
