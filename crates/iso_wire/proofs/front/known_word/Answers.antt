-- A number without a row stops the bytes at its bitmap, as an unknown element.
use Rattle.std.proofs.Common.{rules}
use Rattle.iso_wire.proofs.front.known_word.Goals as goal

pub returns-in-Some-clause-exact : goal.returns-in-Some-clause-exact
returns-in-Some-clause-exact c = search rules
