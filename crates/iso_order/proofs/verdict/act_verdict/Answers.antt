use Rattle.std.proofs.Common.{◌∙◌, ap}
use Rattle.iso_order.specs.declared.act.Money.{Money}
use Rattle.iso_order.proofs.Valid.{inquiry-valid}
use Rattle.iso_order.proofs.verdict.act_verdict.Goals as goal

pub valid-requires : goal.valid-requires
valid-requires c =
    inquiry-valid c.args.key.now c.args.money c.requires.valid c.requires.account c.requires.payment
    (λ two. c.if-function-eq2.false (c.function.ensures ∙ two)) (ap (λ (m : Money). m.amount) c.requires.money)
