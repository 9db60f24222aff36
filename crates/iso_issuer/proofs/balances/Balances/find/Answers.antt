use Rattle.std.proofs.Common.{◌≡◌, ap, sym, ◌∙◌, arith}
use Rattle.std.specs.Prelude.{Some, None, option_map}
use Rattle.std.specs.List.{position_from}
use Rattle.iso_order.specs.Order.{same_pan}
use Rattle.iso_issuer.specs.declared.account.Account.{Account}
use Rattle.iso_issuer.specs.declared.balances.Balance.{Balance}
use Rattle.iso_issuer.specs.declared.balances.PlacedBalance.{PlacedBalance}
use Rattle.iso_issuer.specs.Balances.{accounts_of, balance_at}
use Rattle.iso_issuer.specs.Index.{account_place}
use Rattle.iso_issuer.proofs.Places.{place-below, place-map, found-at, found-none}
use Rattle.iso_issuer.proofs.balances.Balances.find.Goals as goal

pub returns-in_err-place-clause-balance : goal.returns-in_err-place-clause-balance
returns-in_err-place-clause-balance c =
    let rows = c.args.self.now in
    let here = λ (b : Balance). same_pan b.account.pan c.args.pan in
    let at : position_from here 0 rows ≡ None = sym (place-map (λ (a : Account). same_pan a.pan c.args.pan) (λ (b : Balance). b.account) 0 rows) ∙ sym c.in_err-place.ensures in
    let none : balance_at rows c.args.pan ≡ None = found-none here 0 rows at in
    ap (option_map (λ (r : PlacedBalance). r.balance)) c.from_residual.ensures ∙ sym none

pub index-requires : goal.index-requires
index-requires c =
    let rows = c.self.inside.rows.items in
    let here = λ (b : Balance). same_pan b.account.pan c.args.pan in
    let told : Some c.in_ok-place.place ≡ account_place (accounts_of rows) c.args.pan = rw c.self.view_is c.in_ok-place.ensures in
    let at : position_from here 0 rows ≡ Some c.in_ok-place.place = sym (place-map (λ (a : Account). same_pan a.pan c.args.pan) (λ (b : Balance). b.account) 0 rows) ∙ sym told in
    omega (arith, place-below here 0 rows c.in_ok-place.place at)

pub returns-clause-balance : goal.returns-clause-balance
returns-clause-balance c =
    let rows = c.self.inside.rows.items in
    let here = λ (b : Balance). same_pan b.account.pan c.args.pan in
    let told : Some c.in_ok-place.place ≡ account_place (accounts_of rows) c.args.pan = rw c.self.view_is c.in_ok-place.ensures in
    let at : position_from here 0 rows ≡ Some c.in_ok-place.place = sym (place-map (λ (a : Account). same_pan a.pan c.args.pan) (λ (b : Balance). b.account) 0 rows) ∙ sym told in
    rw (← c.self.view_is) (ap Some c.index.ensures ∙ sym (found-at here rows c.index.result.now c.in_ok-place.place at))
