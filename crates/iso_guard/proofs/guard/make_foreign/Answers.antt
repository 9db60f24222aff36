-- The answer to a foreign order is the plain spelling of a response with code 12 alone.
use Rattle.std.proofs.Common.{rules}
use Rattle.iso_guard.proofs.guard.make_foreign.Goals as goal

pub returns-in-Ok : goal.returns-in-Ok
returns-in-Ok c = search rules
