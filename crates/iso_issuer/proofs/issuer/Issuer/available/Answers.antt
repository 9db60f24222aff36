use Rattle.std.proofs.Common.{◌≡◌, ap, sym, ◌∙◌, arith}
use Rattle.std.specs.Prelude.{Some, None, option_map}
use Rattle.std.proofs.lemmas.Int.{ints}
use mir.Val.{to_z, of_z}
use mir.Syntax.{w64}
use Rattle.iso_issuer.specs.declared.balances.Balance.{Balance}
use Rattle.iso_issuer.specs.Balances.{balance_at}
use Rattle.iso_issuer.proofs.Summed.{available-of}
use Rattle.iso_issuer.proofs.issuer.Issuer.available.Goals as goal

pub returns-in_err-get : goal.returns-in_err-get
returns-in_err-get c =
    let none : balance_at c.self.inside.balances c.args.pan ≡ None = sym c.in_err-get.ensures in
    rw (← c.self.view_is, ← c.self.invariant.0.decided)
    (c.from_residual.ensures ∙ sym (ap (option_map (λ (b : Balance). b.available)) none)
    ∙ available-of c.self.inside.journal c.self.inside.balances c.args.pan c.self.invariant.1.sums)

pub returns : goal.returns
returns c =
    let balance = c.in_ok-get.field-0 in
    let found : balance_at c.self.inside.balances c.args.pan ≡ Some balance = sym c.in_ok-get.ensures in
    let value : to_z w64 (of_z w64 balance.available) ≡ balance.available = omega (arith, ints) in
    rw (← c.self.view_is, ← c.self.invariant.0.decided)
    (ap Some value ∙ sym (ap (option_map (λ (b : Balance). b.available)) found)
    ∙ available-of c.self.inside.journal c.self.inside.balances c.args.pan c.self.invariant.1.sums)
