-- The rows of accounts.
use Rattle.std.proofs.Common.{◌≡◌, ℕ, refl, ap, ap₂, arith, List, [], ◌∷◌, length}
use Rattle.std.proofs.lemmas.Int.{ints}
use Rattle.std.specs.Prelude.{ℤ, pos, ◌-ℤ◌, map, unsigned_abs}
use Rattle.iso_issuer.specs.declared.account.Account.{Account}
use Rattle.iso_issuer.specs.declared.effect.Side.TheVariants.{Held}
use Rattle.iso_issuer.specs.declared.journal.Entry.{Entry}
use Rattle.iso_issuer.specs.Balance.{balance_on, ledger, total}
use Rattle.iso_issuer.specs.Holds.{open_holds}
use Rattle.iso_books.specs.declared.balances.AccountRow.{AccountRow}
use Rattle.iso_books.specs.Balances.{row_on, with_holds}

rest_of : (l : ℤ) (t : ℕ) → l -ℤ (l -ℤ pos t) ≡ pos t
rest_of l t = omega (arith, ints)

row_is : (journal : List Entry) (a : Account) → with_holds journal (balance_on journal a) ≡ row_on journal a
row_is journal a =
    ap (λ (n : ℕ). let r : AccountRow = record { balance = balance_on journal a; holds = length (open_holds journal a.pan); held = n } in r)
    (ap unsigned_abs (rest_of (ledger journal a) (total Held a.pan journal)))

pub rows_are : (journal : List Entry) (accounts : List Account) → map (with_holds journal) (map (balance_on journal) accounts) ≡ map (row_on journal) accounts
rows_are journal [] = refl
rows_are journal (a ∷ later) = ap₂ (λ (r : AccountRow) (rs : List AccountRow). r ∷ rs) (row_is journal a) (rows_are journal later)
