-- A reversal or a completion finds what is left, what it reverses and the hold that it touches.
use Rattle.std.proofs.Common.{rules}
use Rattle.iso_issuer.proofs.journal.Journal.find_earlier.Goals as goal

pub returns-clause-found : goal.returns-clause-found
returns-clause-found c = search rules
