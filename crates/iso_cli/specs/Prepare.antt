-- What a host on a port serves with.
use Rattle.std.specs.Prelude.{◌≡◌, ℕ, List, Option, IfSome}
use Rattle.iso_table.specs.HostReady.{IsHostReady}
use Rattle.iso_issuer.specs.declared.account.Account.{Account}
use Rattle.iso_issuer.specs.Document.{ListsAccounts}
use Rattle.iso_cli.specs.declared.prepare.Serving.{Serving}
use Rattle.iso_cli.specs.declared.listening.Listening.{Listening}
use Rattle.iso_cli.specs.Listening.{AsksServe}
use Rattle.iso_cli.specs.Run.{fresh_books}
use Rattle.iso_cli.specs.Tables.{IsNamed}

-- the host is what these words name, with an empty journal
pub record Prepares (words : List (List ℕ)) (file : List ℕ → Option (List ℕ))
    (host : Serving) : Type 0 where
  pub asked : Listening
  pub asks : AsksServe words asked
  pub header : host.header ≡ asked.header
  pub port : host.port ≡ asked.port
  pub count : host.count ≡ asked.count
  pub named : IsNamed file asked.table.now host.table
  pub ready : IsHostReady host.table
  pub listed : List Account
  pub lists : IfSome (file asked.accounts.now) (λ text. ListsAccounts text listed)
  pub issuer : host.issuer ≡ fresh_books listed
