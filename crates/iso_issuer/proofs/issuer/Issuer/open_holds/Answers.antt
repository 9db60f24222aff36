use Rattle.std.proofs.Common.{◌∙◌, ap}
use Rattle.std.specs.Prelude.{sum_by}
use Rattle.std.proofs.lemmas.Result.{IfOk-weaker}
use Rattle.iso_issuer.specs.declared.holds.OpenHold.{OpenHold}
use Rattle.iso_issuer.proofs.Holding.{held-open}
use Rattle.iso_issuer.proofs.issuer.Issuer.open_holds.Goals as goal

pub returns-clause-holds : goal.returns-clause-holds
returns-clause-holds c = rw (← c.self.view_is, ← c.self.invariant.0.decided) c.open_holds.ensures

pub returns-clause-held : goal.returns-clause-held
returns-clause-held c =
    rw (← c.self.view_is, ← c.self.invariant.0.decided)
    (IfOk-weaker c.open_holds.result _ _
    (λ holds is. ap (sum_by (λ (h : OpenHold). h.amount)) is ∙ held-open c.self.inside.journal c.args.pan)
    c.open_holds.ensures)
