use Rattle.std.proofs.Common.{◌≡◌, ap, sym, ◌∙◌}
use Rattle.std.specs.Prelude.{Some, None, option_map, unsigned_abs, ◌-ℤ◌}
use Rattle.iso_issuer.specs.declared.balances.Balance.{Balance}
use Rattle.iso_issuer.specs.Balances.{balance_at}
use Rattle.iso_issuer.proofs.Summed.{held-of}
use Rattle.iso_issuer.proofs.issuer.Issuer.held.Goals as goal

pub returns-in_err-get : goal.returns-in_err-get
returns-in_err-get c =
    let none : balance_at c.self.inside.balances c.args.pan ≡ None = sym c.in_err-get.ensures in
    rw (← c.self.view_is, ← c.self.invariant.0.decided)
    (c.from_residual.ensures ∙ sym (ap (option_map (λ (b : Balance). unsigned_abs (b.ledger -ℤ b.available))) none)
    ∙ held-of c.self.inside.journal c.self.inside.balances c.args.pan c.self.invariant.1.sums)

pub returns : goal.returns
returns c =
    let balance = c.in_ok-get.field-0 in
    let found : balance_at c.self.inside.balances c.args.pan ≡ Some balance = sym c.in_ok-get.ensures in
    rw (← c.self.view_is, ← c.self.invariant.0.decided)
    (ap Some c.held.ensures ∙ sym (ap (option_map (λ (b : Balance). unsigned_abs (b.ledger -ℤ b.available))) found)
    ∙ held-of c.self.inside.journal c.self.inside.balances c.args.pan c.self.invariant.1.sums)
