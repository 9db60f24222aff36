-- Where an answer is due, a turn waits no longer than until then.
use Rattle.std.proofs.Common.{rules}
use Rattle.iso_script_peers.proofs.pausing.pause_of.Goals as goal

pub returns-in-Some : goal.returns-in-Some
returns-in-Some c = search rules
