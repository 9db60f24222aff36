use Rattle.std.proofs.Common.{arith, ◌≤◌, take, length, ◌<◌}
use Rattle.std.specs.Prelude.{Option, Some, None}
use Rattle.std.proofs.lemmas.List.{take_more}
use Rattle.iso_acquirer.specs.declared.fault.StepFault.{StepFault}
use Rattle.iso_acquirer.specs.World.{refusal_count}
use Rattle.iso_acquirer.proofs.Closed.{ran-push}
use Rattle.iso_acquirer.proofs.world.World.run.Goals as goal

one_at_most : (f : Option StepFault) → refusal_count f ≤ 1
one_at_most None = omega arith
one_at_most (Some e) = omega arith

pub loop-event-preserved : goal.loop-event-preserved
loop-event-preserved c =
    let told = c.refusals-refused.ensures.step in
    let below : c.loop-event.event-index < length c.args.events.now = c.loop-event-test.true in
    let first = take_more c.args.events.now c.loop-event.event-index c.event-item.result below in
    record {
      ran = rw (first, ← c.event-item.is, told.2)
          (ran-push c.args.self.now c.loop-event.self c.refusals-refused.new.self (take c.loop-event.event-index c.args.events.now) c.loop-event.refused c.event-item.result told.0 c.loop-event.invariant.ran told.1);
      few = omega (arith, told.2, one_at_most told.0, c.loop-event.invariant.few);
      closed = λ stan state is final. c.refusals-refused.ensures.closed stan state (c.loop-event.invariant.closed stan state is final) final;
    }
