-- An acquirer is closed once it was silent for as long as it may be.
use Rattle.std.proofs.Common.{rules}
use Rattle.iso_relay.proofs.bounds.Bounds.is_over.Goals as goal

pub returns-in-Some : goal.returns-in-Some
returns-in-Some c = search rules
