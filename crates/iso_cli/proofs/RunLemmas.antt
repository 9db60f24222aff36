-- What a host on a stream writes for its whole input.
use Rattle.std.proofs.Common.{◌≡◌, List, ◌++◌, ap, subst, ◌∙◌}
use Rattle.std.specs.Prelude.{ℕ, IfSome, Ok}
use Rattle.std.specs.declared.option.Option.{Option}
use Rattle.std.specs.Io.KnownBytes.{Appends}
use Rattle.std.proofs.lemmas.List.{append-nil}
use Rattle.iso_table.specs.Layout.{Layout}
use Rattle.iso_table.specs.HostReady.{IsHostReady}
use Rattle.iso_wire.specs.Framing.{frames_of}
use Rattle.iso_issuer.specs.declared.account.Account.{Account}
use Rattle.iso_issuer.specs.Books.{Books}
use Rattle.iso_issuer.specs.Document.{ListsAccounts}
use Rattle.iso_host.specs.Links.{Agreed, agreed}
use Rattle.iso_host.specs.Output.{IsOutput}
use Rattle.iso_host.specs.Serving.{Leaves, Standing}
use Rattle.iso_host.specs.declared.fault.Report.{Report}
use Rattle.iso_cli.specs.AtHand.{at_hand}
use Rattle.iso_cli.specs.Run.{Runs, RunsOnStreams, fresh_books}
use Rattle.iso_cli.specs.Tables.{IsNamed}
use Rattle.iso_cli.proofs.StreamingLemmas.{consumed_all, known_all}

-- frames to the end of the input are the input, what was written for them is the output, and the report counts them
pub runs_over : (file : List ℕ → Option (List ℕ)) (table accounts : List ℕ) (l : Agreed) (listed : List Account) (before after : Standing) (report : Report)
    → IsNamed file table l.table → IsHostReady l.table → IfSome (file accounts) (λ text. ListsAccounts text listed) → before.books ≡ fresh_books listed
    → Leaves l before after (Ok report) → RunsOnStreams (at_hand file before.unread before.written after.written) table accounts l.header report
runs_over file table accounts l listed before after report named ready lists fresh (bodies, rest, serves, partial, (none, end, counted)) =
    known_all before.unread (frames_of l.header bodies ++ rest)
    (λ all. (t : Layout) × (listed : List Account) × (b : List ℕ) × IsNamed file table t
    × IfSome (file accounts) (λ text. ListsAccounts text listed) × Runs (agreed t l.header) listed all b report × Appends before.written after.written b)
    (consumed_all before.unread after.unread (frames_of l.header bodies ++ rest) serves.read end) (
      l.table,
      listed,
      serves.bytes,
      named,
      lists,
      record {
        ready = ready;
        bodies = bodies;
        frames = record { joined = ap (λ r. frames_of l.header bodies ++ r) none ∙ append-nil (frames_of l.header bodies); fit = serves.fit };
        output = subst (λ (b : Books). IsOutput l.table l.header b bodies serves.bytes) fresh serves.output;
        counted = counted;
      },
      serves.answers,
    )
