use Rattle.std.proofs.Common.{Some, None, refl}
use Rattle.iso_acquirer.proofs.world.World.refusals.Goals as goal

pub returns-in-Err-clause-step : goal.returns-in-Err-clause-step
returns-in-Err-clause-step c = (Some c.in-Err.field-0, (c.in-Err.ensures.fault, c.in-Err.ensures.unchanged), refl)

-- an event that is made counts no refusal
pub returns-in-Ok-clause-step : goal.returns-in-Ok-clause-step
returns-in-Ok-clause-step c = (None, c.in-Ok.ensures.made, refl)
