use Rattle.std.proofs.Common.{◌≡◌, ap, sym, ◌∙◌, arith, length, ◌<◌, get_or}
use Rattle.std.proofs.Math.ListN.{set}
use Rattle.std.specs.Prelude.{Some, None, map, All}
use Rattle.std.proofs.lemmas.List.{length-map}
use Rattle.iso_order.specs.Order.{same_pan}
use Rattle.iso_issuer.specs.declared.account.Account.{Account}
use Rattle.iso_issuer.specs.declared.balances.Balance.{Balance}
use Rattle.iso_issuer.specs.Account.{account_of}
use Rattle.iso_issuer.specs.Balances.{accounts_of, balance_with, balance_after, IsNear}
use Rattle.iso_issuer.specs.Index.{account_place}
use Rattle.iso_issuer.proofs.Places.{place-below, found-none}
use Rattle.iso_issuer.proofs.Changes.{posted-at, posted-none, accounts-posted}
use Rattle.iso_issuer.proofs.balances.Balances.post.Goals as goal

pub index-requires : goal.index-requires
index-requires c =
    let rows = c.self.inside.rows.items in
    let told : c.args.place ≡ account_place (accounts_of rows) c.args.change.pan = rw c.self.view_is c.requires.place in
    let at : account_place (accounts_of rows) c.args.change.pan ≡ Some c.in-Some.place = sym told ∙ c.in-Some.is in
    omega (arith, place-below (λ (a : Account). same_pan a.pan c.args.change.pan) 0 (accounts_of rows) c.in-Some.place at, length-map rows (λ (b : Balance). b.account))

pub balance_with-requires : goal.balance_with-requires
balance_with-requires c =
    let rows = c.self.inside.rows.items in
    let told : c.args.place ≡ account_place (accounts_of rows) c.args.change.pan = rw c.self.view_is c.requires.place in
    let at : account_place (accounts_of rows) c.args.change.pan ≡ Some c.in-Some.place = sym told ∙ c.in-Some.is in
    let below : c.in-Some.place < length rows =
    omega (arith, place-below (λ (a : Account). same_pan a.pan c.args.change.pan) 0 (accounts_of rows) c.in-Some.place at, length-map rows (λ (b : Balance). b.account)) in
    let near : All (IsNear 2999999) rows = rw c.self.view_is c.requires.near in
    rw c.index.ensures (near c.in-Some.place c.index.result.now below)

pub index_mut-requires : goal.index_mut-requires
index_mut-requires c =
    let rows = c.self.inside.rows.items in
    let told : c.args.place ≡ account_place (accounts_of rows) c.args.change.pan = rw c.self.view_is c.requires.place in
    let at : account_place (accounts_of rows) c.args.change.pan ≡ Some c.in-Some.place = sym told ∙ c.in-Some.is in
    omega (arith, place-below (λ (a : Account). same_pan a.pan c.args.change.pan) 0 (accounts_of rows) c.in-Some.place at, length-map rows (λ (b : Balance). b.account))

pub invariant_of-self : goal.invariant_of-self
invariant_of-self c =
    let rows = c.self.inside.rows.items in
    let told : c.args.place ≡ account_place (accounts_of rows) c.args.change.pan = rw c.self.view_is c.requires.place in
    let at : account_place (accounts_of rows) c.args.change.pan ≡ Some c.in-Some.place = sym told ∙ c.in-Some.is in
    let value : c.balance_with.result ≡ balance_with c.args.change (get_or rows c.in-Some.place c.index.result.now) = c.balance_with.ensures ∙ ap (balance_with c.args.change) c.index.ensures in
    let written : set rows c.in-Some.place c.balance_with.result ≡ map (balance_after c.args.change) rows =
    ap (set rows c.in-Some.place) value ∙ posted-at c.args.change rows c.index.result.now c.in-Some.place c.self.invariant.1 at in
    rw (written, accounts-posted c.args.change rows) c.self.invariant

pub returns-in-Some : goal.returns-in-Some
returns-in-Some c =
    let rows = c.self.inside.rows.items in
    let told : c.args.place ≡ account_place (accounts_of rows) c.args.change.pan = rw c.self.view_is c.requires.place in
    let at : account_place (accounts_of rows) c.args.change.pan ≡ Some c.in-Some.place = sym told ∙ c.in-Some.is in
    let value : c.balance_with.result ≡ balance_with c.args.change (get_or rows c.in-Some.place c.index.result.now) = c.balance_with.ensures ∙ ap (balance_with c.args.change) c.index.ensures in
    rw (← c.self.view_is)
    (ap (set rows c.in-Some.place) value ∙ posted-at c.args.change rows c.index.result.now c.in-Some.place c.self.invariant.1 at)

pub returns-in_default : goal.returns-in_default
returns-in_default c =
    let rows = c.self.inside.rows.items in
    let told : c.args.place ≡ account_place (accounts_of rows) c.args.change.pan = rw c.self.view_is c.requires.place in
    let at : account_place (accounts_of rows) c.args.change.pan ≡ None = sym told ∙ c.in_default.is in
    let none : account_of (accounts_of rows) c.args.change.pan ≡ None = found-none (λ (a : Account). same_pan a.pan c.args.change.pan) 0 (accounts_of rows) at in
    rw (← c.self.view_is) (sym (posted-none c.args.change rows none))
