use Rattle.std.proofs.Common.{◌≡◌, ap, sym, ◌∙◌, rules}
use Rattle.std.specs.Prelude.{false, Some, option_map, if◌then◌else◌}
use Rattle.iso_order.specs.Order.{money_of}
use Rattle.iso_issuer.specs.declared.balances.PlacedBalance.{PlacedBalance}
use Rattle.iso_issuer.specs.Account.{account_of}
use Rattle.iso_issuer.specs.Journal.{is_reversed, is_nothing, left_at}
use Rattle.iso_issuer.specs.Decision.{money_code, account_code}
use Rattle.iso_issuer.specs.Balances.{accounts_of}
use Rattle.iso_issuer.specs.Balance.{balance_on}
use Rattle.iso_issuer.proofs.Seen.{money-kept}
use Rattle.iso_issuer.proofs.Summed.{balance-of}
use Rattle.iso_issuer.proofs.decision.code_of.Goals as goal

pub returns-else-is_nothing-clause-value : goal.returns-else-is_nothing-clause-value
returns-else-is_nothing-clause-value c = λ entries balances sums placed own.
    let accounts = accounts_of balances in
    let money = c.in-Some.money in
    let order = c.args.order.now in
    let about : Some money ≡ money_of order.act = c.in-Some.ensures ∙ ap money_of c.act.ensures.value in
    let left : c.args.left ≡ left_at entries order.key = own (money-kept order.act money about) in
    let found : option_map (λ (p : PlacedBalance). p.balance) c.args.placed.now ≡ option_map (balance_on entries) (account_of accounts money.pan) = placed.balance money about ∙ balance-of entries balances money.pan sums in
    let code : c.account_code.result ≡ account_code entries order money (account_of accounts money.pan) = c.account_code.ensures.value entries (account_of accounts money.pan) found left in
    let fresh : is_reversed entries order.key ≡ false = ap is_nothing (sym left) ∙ sym c.is_nothing.ensures ∙ c.if-is_nothing.false in
    code
    ∙ sym (ap (λ b. if b then 21 else account_code entries order money (account_of accounts money.pan)) fresh)
    ∙ ap (money_code accounts entries order) about

-- what is wholly reversed already is answered 21
pub returns-then-is_nothing-clause-value : goal.returns-then-is_nothing-clause-value
returns-then-is_nothing-clause-value c = search rules
