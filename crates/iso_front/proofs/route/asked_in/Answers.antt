-- A body that is one whole message asks what the message asks.
use Rattle.std.proofs.Common.{rules}
use Rattle.iso_front.proofs.route.asked_in.Goals as goal

pub returns-then-used-body : goal.returns-then-used-body
returns-then-used-body c = search rules
