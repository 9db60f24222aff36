use Rattle.std.proofs.Common.{◌∙◌, sym, subst, ℕ, List}
use Rattle.iso_issuer.specs.declared.account.Account.{Account}
use Rattle.iso_shared.specs.Written.{IsWritten}
use Rattle.iso_shared.proofs.Taken.{written_step, not_step, orders_step}
use Rattle.iso_shared.proofs.standby.take_rows.Goals as goal

pub returns-then-not-branch-clause-not : goal.returns-then-not-branch-clause-not
returns-then-not-branch-clause-not c = λ _ are.
    let l = c.loop-row in
    let old = c.args.issuer.now in
    let row = c.row-item.result in
    not_step old.accounts old.limit old.orders l.issuer.orders c.args.rows.now l.row-index row c.loop-row-test.true c.row-item.is l.invariant.orders
    (λ one. c.in_ok-take_row.ensures.not c.if-not-branch.true
    (subst (λ (a : List Account). IsWritten a l.issuer.limit l.issuer.orders row) (sym l.invariant.accounts)
    (subst (λ (n : ℕ). IsWritten old.accounts n l.issuer.orders row) (sym l.invariant.limit) one))) are

pub loop-row-preserved : goal.loop-row-preserved
loop-row-preserved c =
    let l = c.loop-row in
    let old = c.args.issuer.now in
    let row = c.row-item.result in
    let e = c.in_ok-take_row.ensures in
    let good = c.if-not-branch.false in
    record {
      accounts = e.accounts ∙ l.invariant.accounts;
      limit = e.limit ∙ l.invariant.limit;
      orders = orders_step old.orders l.issuer.orders c.take_row.new.issuer.orders c.args.rows.now l.row-index row c.loop-row-test.true c.row-item.is l.invariant.orders (e.entered good);
      written =
          written_step old.accounts old.limit old.orders l.issuer.orders c.args.rows.now l.row-index row c.loop-row-test.true c.row-item.is l.invariant.orders l.invariant.written
          (subst (λ (a : List Account). IsWritten a old.limit l.issuer.orders row) l.invariant.accounts
          (subst (λ (n : ℕ). IsWritten l.issuer.accounts n l.issuer.orders row) l.invariant.limit (e.written good)));
      start = λ is. e.start good (l.invariant.start is);
    }
