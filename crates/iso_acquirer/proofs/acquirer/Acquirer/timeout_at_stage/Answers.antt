use Rattle.std.proofs.Common.{ap, ◌∙◌, rules}
use Rattle.iso_acquirer.specs.declared.slot.Role.TheVariants.{Transaction}
use Rattle.iso_acquirer.specs.declared.slot.Stage.TheVariants.{Waiting, Reversing}
use Rattle.iso_acquirer.specs.Acquirer.{on_stage}
use Rattle.iso_acquirer.proofs.Kept.{request-of}
use Rattle.iso_acquirer.proofs.acquirer.Acquirer.timeout_at_stage.Goals as goal

pub returns-then-count-eq1-clause-own : goal.returns-then-count-eq1-clause-own
returns-then-count-eq1-clause-own c = ap (λ p. p.id) (c.bring.ensures (λ _. Waiting 2) (ap (on_stage (λ _. Waiting 2)) c.requires.transaction))

pub reversal_under-requires-clause-few : goal.reversal_under-requires-clause-few
reversal_under-requires-clause-few c =
    (request-of c.args.slot.now (Reversing c.in-Reversing.undo) c.requires.request (c.requires.transaction ∙ ap Transaction c.in-Reversing.is)).1

pub reversal_under-requires-clause-base : goal.reversal_under-requires-clause-base
reversal_under-requires-clause-base c = (request-of c.args.slot.now c.args.stage c.requires.request c.requires.transaction).0

-- the reversal that waits is sent again, and nothing changes
pub returns-in-Reversing-clause-ok : goal.returns-in-Reversing-clause-ok
returns-in-Reversing-clause-ok c = search rules
