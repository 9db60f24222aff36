use Rattle.std.proofs.Common.{subst, rules}
use Rattle.iso_acquirer.specs.declared.event.Event.TheVariants.{Begin, Timeout, Deliver, Answer, Other}
use Rattle.iso_acquirer.specs.Agreed.{IsSound}
use Rattle.iso_acquirer.proofs.Closed.{stays}
use Rattle.iso_acquirer.proofs.world.World.step.Goals as goal

pub returns-in-Begin-clause-closed : goal.returns-in-Begin-clause-closed
returns-in-Begin-clause-closed c =
    stays c.args.self.now c.begin.new.self (Begin c.in-Begin.pan c.in-Begin.amount c.in-Begin.currency c.in-Begin.sent) c.begin.result (subst IsSound c.self.view_is c.self.invariant) c.begin.ensures.ok c.begin.ensures.unchanged

pub returns-in-Timeout-clause-closed : goal.returns-in-Timeout-clause-closed
returns-in-Timeout-clause-closed c =
    stays c.args.self.now c.timeout.new.self (Timeout c.in-Timeout.stan) c.timeout.result (subst IsSound c.self.view_is c.self.invariant) c.timeout.ensures.ok c.timeout.ensures.unchanged

pub returns-in-Deliver-clause-closed : goal.returns-in-Deliver-clause-closed
returns-in-Deliver-clause-closed c =
    stays c.args.self.now c.deliver.new.self (Deliver c.in-Deliver.place) c.deliver.result (subst IsSound c.self.view_is c.self.invariant) c.deliver.ensures.ok c.deliver.ensures.unchanged

pub returns-in-Answer-clause-closed : goal.returns-in-Answer-clause-closed
returns-in-Answer-clause-closed c =
    stays c.args.self.now c.answer.new.self (Answer c.in-Answer.place) c.answer.result (subst IsSound c.self.view_is c.self.invariant) c.answer.ensures.ok c.answer.ensures.unchanged

pub returns-in-Other-clause-closed : goal.returns-in-Other-clause-closed
returns-in-Other-clause-closed c =
    stays c.args.self.now c.other.new.self (Other c.in-Other.order) c.other.result (subst IsSound c.self.view_is c.self.invariant) c.other.ensures.ok c.other.ensures.unchanged

-- an order is delivered, or there is a reason why it isn't
pub returns-in-Deliver-clause-made : goal.returns-in-Deliver-clause-made
returns-in-Deliver-clause-made c = search rules

pub returns-in-Deliver-clause-fault : goal.returns-in-Deliver-clause-fault
returns-in-Deliver-clause-fault c = search rules
