-- One more acquirer is let in exactly while there are fewer than the bound.
use Rattle.std.proofs.Common.{rules}
use Rattle.iso_relay.proofs.bounds.Bounds.lets_in.Goals as goal

pub returns : goal.returns
returns c = search rules
