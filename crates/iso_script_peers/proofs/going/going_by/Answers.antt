-- What a rule delays goes out at a later moment, and what it cuts never does.
use Rattle.std.proofs.Common.{rules}
use Rattle.iso_script_peers.proofs.going.going_by.Goals as goal

pub returns-in-Cut : goal.returns-in-Cut
returns-in-Cut c = search rules

pub returns-in-Delay : goal.returns-in-Delay
returns-in-Delay c = search rules
