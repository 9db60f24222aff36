-- The account of a number.
use Rattle.std.specs.Prelude.{List, Option, find}
use Rattle.iso_order.specs.Pan.{AccountNumber}
use Rattle.iso_order.specs.Order.{same_pan}
use Rattle.iso_issuer.specs.declared.account.Account.{Account}

-- the account of this number, where there is one
abbrev pub account_of : List Account → AccountNumber → Option Account
account_of accounts pan = find (λ a. same_pan a.pan pan) accounts
