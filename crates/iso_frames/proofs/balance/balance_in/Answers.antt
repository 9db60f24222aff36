use Rattle.std.proofs.Common.{◌≡◌, ◌∙◌, sym, ap, ℕ, suc, ◌+◌, ◌-◌, arith, true, false, List, take}
use Rattle.std.specs.Prelude.{ℤ, Option, is_some}
use Rattle.iso_frames.specs.Balance.{available_in, balance_from}
use Rattle.iso_frames.proofs.Balances.{balance-step, balance-found, balance-end}
use Rattle.iso_frames.proofs.balance.balance_in.Goals as goal

pub returns-then-is_some : goal.returns-then-is_some
returns-then-is_some c =
    let currency : List ℕ = c.args.currency.now in
    let rest : List ℕ = c.loop.rest.now in
    let left : ℕ = 6 - (c.loop.counter + 1) in
    let e : 6 - c.loop.counter ≡ suc left = omega (arith, c.loop-test.true) in
    let told : c.available_in-told.result ≡ available_in currency (take 20 rest) =
    c.available_in-told.ensures ∙ ap (λ (t : List ℕ). available_in currency t) c.first_amount.ensures.first in
    let some : is_some (available_in currency (take 20 rest)) ≡ true =
    ap (λ (o : Option ℤ). is_some o) (sym told) ∙ sym c.is_some.ensures ∙ c.if-is_some.true in
    told ∙ balance-found left currency rest some ∙ ap (λ (n : ℕ). balance_from n currency rest) (sym e) ∙ sym c.loop.invariant

pub loop-preserved : goal.loop-preserved
loop-preserved c =
    let currency : List ℕ = c.args.currency.now in
    let rest : List ℕ = c.loop.rest.now in
    let left : ℕ = 6 - (c.loop.counter + 1) in
    let e : 6 - c.loop.counter ≡ suc left = omega (arith, c.loop-test.true) in
    let told : c.available_in-told.result ≡ available_in currency (take 20 rest) =
    c.available_in-told.ensures ∙ ap (λ (t : List ℕ). available_in currency t) c.first_amount.ensures.first in
    let none : is_some (available_in currency (take 20 rest)) ≡ false =
    ap (λ (o : Option ℤ). is_some o) (sym told) ∙ sym c.is_some.ensures ∙ c.if-is_some.false in
    c.loop.invariant ∙ ap (λ (n : ℕ). balance_from n currency rest) e ∙ balance-step left currency rest none
    ∙ ap (λ (t : List ℕ). balance_from left currency t) (sym c.first_amount.ensures.others)

pub returns : goal.returns
returns c =
    let currency : List ℕ = c.args.currency.now in
    let e : 0 ≡ 6 - c.loop.counter = omega (arith, c.loop-test.false) in
    balance-end currency c.loop.rest.now ∙ ap (λ (n : ℕ). balance_from n currency c.loop.rest.now) e ∙ sym c.loop.invariant
