use Rattle.std.proofs.Common.{arith, refl}
use Rattle.iso_issuer.proofs.Summed.{summed-first}
use Rattle.iso_issuer.proofs.issuer.Issuer.new.Goals as goal

pub invariant_of-result : goal.invariant_of-result
invariant_of-result c =
    let e = c.into_balances-balances.ensures in
    rw c.new-journal.ensures (
      record { few = omega arith; limited = omega arith; decided = refl; distinct = tt },
      summed-first c.args.accounts c.into_balances-balances.result e.accounts e.opened,
    )
