-- A bad body stops the bytes at its front, with the fault that it has.
use Rattle.std.proofs.Common.{rules}
use Rattle.iso_wire.proofs.judging.body_end.Goals as goal

pub returns-in-Err-clause-exact : goal.returns-in-Err-clause-exact
returns-in-Err-clause-exact c = search rules
