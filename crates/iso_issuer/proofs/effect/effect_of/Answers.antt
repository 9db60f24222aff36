use Rattle.std.proofs.Common.{sym}
use Rattle.iso_issuer.proofs.Classes.{complete-classes}
use Rattle.iso_issuer.proofs.effect.effect_of.Goals as goal

pub returns-in-Complete-clause-ends : goal.returns-in-Complete-clause-ends
returns-in-Complete-clause-ends c = λ q same.
    complete-classes c.args.order.now c.in-Complete.money c.in-Complete.hold q c.act.ensures.valid (sym c.in-Complete.ensures.value) same
