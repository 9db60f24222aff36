use Rattle.std.proofs.Common.{◌≡◌, ap, sym, ◌∙◌, arith, length, ◌++◌, ◌∷◌, []}
use Rattle.std.specs.Prelude.{None, option_map}
use Rattle.std.proofs.lemmas.List.{map-append, length-map}
use Rattle.std.proofs.lemmas.Grind.{common_steps}
use Rattle.iso_issuer.specs.declared.balances.Balance.{Balance}
use Rattle.iso_issuer.specs.Account.{account_of}
use Rattle.iso_issuer.specs.Balances.{accounts_of, opening_balance, balance_at}
use Rattle.iso_issuer.proofs.ByKey.{account_place-push, account-at}
use Rattle.iso_issuer.proofs.Documents.{numbers-push}
use Rattle.iso_issuer.proofs.balances.Balances.open.Goals as goal

pub invariant_of-self-2 : goal.invariant_of-self-2
invariant_of-self-2 c =
    let rows = c.self.inside.rows.items in
    let accounts = accounts_of rows in
    let items : c.push.new.self.items ≡ rows ++ opening_balance c.args.account ∷ [] = grind (arith, common_steps) in
    let grown : accounts_of c.push.new.self.items ≡ accounts ++ c.args.account ∷ [] = ap accounts_of items ∙ map-append (λ (b : Balance). b.account) rows (opening_balance c.args.account ∷ []) in
    let unknown : balance_at rows c.args.account.pan ≡ None = rw c.self.view_is c.requires.new in
    let new : account_of accounts c.args.account.pan ≡ None = account-at rows c.args.account.pan ∙ ap (option_map (λ (b : Balance). b.account)) unknown in
    let count : c.len.result ≡ length accounts = grind (arith, common_steps, length-map) in
    rw grown (
      λ q. c.in_ok-insert.ensures.updates.0 q ∙ rw (c.self.invariant.0 q, count) (sym (account_place-push accounts c.args.account q new)),
      numbers-push accounts c.args.account c.self.invariant.1 new,
    )
