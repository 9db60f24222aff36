use Rattle.std.proofs.Common.{◌≡◌, refl, ap, ◌∙◌}
use Rattle.std.specs.Prelude.{Option, Some, None, option_map}
use Rattle.iso_issuer.specs.declared.balances.Balance.{Balance}
use Rattle.iso_issuer.specs.declared.balances.PlacedBalance.{PlacedBalance}
use Rattle.iso_issuer.specs.Decision.{shown_by}
use Rattle.iso_order.specs.Order.{money_of}
use Rattle.iso_issuer.specs.Balances.{accounts_of}
use Rattle.iso_issuer.proofs.Summed.{available-of}
use Rattle.iso_issuer.proofs.decision.shown_by.Goals as goal

-- what is available on a balance that has a place
available_placed : (placed : Option PlacedBalance) →
    option_map (λ (p : PlacedBalance). p.balance.available) placed ≡ option_map (λ (b : Balance). b.available) (option_map (λ (p : PlacedBalance). p.balance) placed)
available_placed None = refl
available_placed (Some p) = refl

pub returns-in-Inquiry : goal.returns-in-Inquiry
returns-in-Inquiry c = λ entries balances sums placed.
    let m = c.in-Inquiry.field-0 in
    c.available_in.ensures ∙ available_placed c.args.placed.now
    ∙ ap (option_map (λ (b : Balance). b.available)) (placed.balance m (ap money_of c.in-Inquiry.ensures.value))
    ∙ available-of entries balances m.pan sums
    ∙ ap (shown_by (accounts_of balances) entries) c.in-Inquiry.ensures.value
