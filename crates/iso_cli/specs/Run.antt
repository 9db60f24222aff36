-- What the host on a stream writes.
use Rattle.std.specs.Prelude.{◌≡◌, ℕ, List, [], ◌∷◌, Option, IfSome, codes}
use Rattle.std.specs.Io.KnownBytes.{Appends}
use Rattle.iso_table.specs.Layout.{Layout}
use Rattle.iso_table.specs.HostReady.{IsHostReady}
use Rattle.iso_wire.specs.declared.header.Header.{Header}
use Rattle.iso_wire.specs.Framing.{Frames}
use Rattle.iso_issuer.specs.declared.account.Account.{Account}
use Rattle.iso_issuer.specs.Books.{Books}
use Rattle.iso_issuer.specs.Document.{ListsAccounts}
use Rattle.iso_host.specs.Links.{Agreed, agreed}
use Rattle.iso_host.specs.Output.{IsOutput}
use Rattle.iso_host.specs.Serving.{Reports}
use Rattle.iso_host.specs.declared.fault.Report.{Report}
use Rattle.iso_cli.specs.AtHand.{AtHand}
use Rattle.iso_cli.specs.Connections.{report_text}
use Rattle.iso_cli.specs.Words.{header_name}
use Rattle.iso_cli.specs.Tables.{IsNamed}

-- these accounts, with an empty journal
abbrev pub fresh_books : List Account → Books
fresh_books accounts = record { accounts = accounts; limit = 999999; orders = [] }

-- the input is whole frames, the bytes are the output for their bodies, and the report counts these bodies, under a table that is
-- ready for a host
pub record Runs (l : Agreed) (accounts : List Account) (all b : List ℕ)
    (report : Report) : Type 0 where
  pub ready : IsHostReady l.table
  pub bodies : List (List ℕ)
  pub frames : Frames l.header bodies all
  pub output : IsOutput l.table l.header (fresh_books accounts) bodies b
  pub counted : Reports l.table report bodies

-- what was appended is that, for the table and the accounts that are named
abbrev pub RunsOnStreams : AtHand → List ℕ → List ℕ → Header → Report → Type 0
RunsOnStreams w table accounts h report =
    IfSome w.input
    (λ all. (t : Layout) × (listed : List Account) × (b : List ℕ) × IsNamed w.file table t
    × IfSome (w.file accounts) (λ text. ListsAccounts text listed)
    × Runs (agreed t h) listed all b report × Appends w.before w.after b)

-- where the words ask to run, that was appended to the output, and the line of the report to the fault stream
abbrev pub RunsIfAsked : List (List ℕ) → AtHand → Option (List ℕ) → Option (List ℕ) → Type 0
RunsIfAsked words w held written =
    (table accounts : List ℕ) (header : Header)
    → words ≡ codes "run" ∷ table ∷ accounts ∷ header_name header ∷ []
    → (report : Report) × RunsOnStreams w table accounts header report
    × Appends held written (report_text report)
