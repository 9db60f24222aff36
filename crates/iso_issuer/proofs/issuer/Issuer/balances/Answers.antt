use Rattle.std.proofs.Common.{◌∙◌}
use Rattle.iso_issuer.proofs.issuer.Issuer.balances.Goals as goal

pub returns : goal.returns
returns c = rw (← c.self.view_is, ← c.self.invariant.0.decided) (c.rows.ensures ∙ c.self.invariant.1.sums)
