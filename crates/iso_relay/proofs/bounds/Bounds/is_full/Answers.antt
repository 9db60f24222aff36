-- A connection is full exactly where the bytes that wait reach the bound.
use Rattle.std.proofs.Common.{rules}
use Rattle.iso_relay.proofs.bounds.Bounds.is_full.Goals as goal

pub returns : goal.returns
returns c = search rules
