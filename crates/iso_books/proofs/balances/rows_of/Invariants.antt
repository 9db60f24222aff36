use Rattle.std.proofs.Common.{◌≡◌, ◌++◌, drop}
use Rattle.std.specs.Prelude.{map}
use Rattle.iso_issuer.specs.Books.{journal}
use Rattle.iso_books.specs.Balances.{with_holds}
use Rattle.iso_books.proofs.balances.rows_of.Given as goal

-- the rows so far, and then those of the rest
abbrev pub invariant-loop-balance : goal.invariant-loop-balance
invariant-loop-balance l =
    l.rows.items ++ map (with_holds (journal l.issuer)) (drop l.balance-index l.balances) ≡ map (with_holds (journal l.issuer)) l.balances
