-- A message of version 0 that asks for an answer has a valid key, of its first delivery.
use Rattle.std.proofs.Common.{rules, arith}
use Rattle.std.proofs.lemmas.Grind.{common_steps}
use Rattle.iso_order.proofs.fields.key_of.Goals as goal

pub returns-clause-valid : goal.returns-clause-valid
returns-clause-valid c = grind (arith, common_steps)

pub returns-clause-value : goal.returns-clause-value
returns-clause-value c = search rules
