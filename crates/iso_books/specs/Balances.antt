-- What is on an account, with its open holds.
use Rattle.std.specs.Prelude.{◌-ℤ◌, List, length, unsigned_abs}
use Rattle.iso_issuer.specs.declared.account.Account.{Account}
use Rattle.iso_issuer.specs.declared.balances.Balance.{Balance}
use Rattle.iso_issuer.specs.declared.effect.Side.TheVariants.{Held}
use Rattle.iso_issuer.specs.declared.journal.Entry.{Entry}
use Rattle.iso_issuer.specs.Balance.{balance_on, total}
use Rattle.iso_issuer.specs.Holds.{open_holds}
use Rattle.iso_books.specs.declared.balances.AccountRow.{AccountRow}

-- its ledger and what is available, how many holds are open, and what they hold together
abbrev pub row_on : List Entry → Account → AccountRow
row_on journal a = record {
  balance = balance_on journal a;
  holds = length (open_holds journal a.pan);
  held = total Held a.pan journal;
}

-- a balance, with the holds of its account, and what it has less available than its ledger
abbrev pub with_holds : List Entry → Balance → AccountRow
with_holds journal b = record {
  balance = b;
  holds = length (open_holds journal b.account.pan);
  held = unsigned_abs (b.ledger -ℤ b.available);
}
