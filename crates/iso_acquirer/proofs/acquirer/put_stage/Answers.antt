use Rattle.std.proofs.Common.{arith, ap, ◌-◌}
use Rattle.iso_acquirer.proofs.Numbered.{found, written}
use Rattle.iso_acquirer.proofs.acquirer.put_stage.Goals as goal

pub overflow_sub-place : goal.overflow_sub-place
overflow_sub-place c =
    let at = found c.args.slots.now 1 c.args.slot.now.order.key.stan c.args.slot.now c.requires.numbered c.requires.there in
    rw c.key.ensures.value (omega (arith, at.1))

pub bounds-slots-place : goal.bounds-slots-place
bounds-slots-place c =
    let at = found c.args.slots.now 1 c.args.slot.now.order.key.stan c.args.slot.now c.requires.numbered c.requires.there in
    rw c.key.ensures.value (omega (arith, at.1, at.2))

pub returns : goal.returns
returns c = λ step new.
    let at = found c.args.slots.now 1 c.args.slot.now.order.key.stan c.args.slot.now c.requires.numbered c.requires.there in
    rw c.key.ensures.value
    (written step c.args.slots.now 1 (c.args.slot.now.order.key.stan - 1) c.args.slot.now.order.key.stan c.args.slot.now _ c.requires.numbered (omega (arith, at.1)) c.requires.there
    (ap (λ r. record { order = c.args.slot.now.order; role = r }) new))
