-- What the connections of a host on a port leave.
use Rattle.std.specs.Prelude.{◌≡◌, ◌≢◌, ◌⊎◌, ◌≤◌, ℕ, List, [], ◌++◌, length, flat_map, All, Option, unwrap_or, codes, decimal, Result, Ok, Err}
use Rattle.std.specs.Io.KnownBytes.{Appends}
use Rattle.iso_table.specs.Layout.{Layout}
use Rattle.iso_issuer.specs.Books.{Books}
use Rattle.iso_host.specs.declared.fault.Report.{Report}
use Rattle.iso_host.specs.declared.fault.ServeFault.{ServeFault}
use Rattle.iso_host.specs.declared.fault.ServeFault.TheVariants.{Memory}
use Rattle.iso_host.specs.Entering.{books_after_bodies}
use Rattle.iso_host.specs.Serving.{Reports}
use Rattle.iso_cli.specs.Stop.{stop_line, stop_of_serving}

-- ---- one connection

-- the bodies that were handled of a connection, and how it ended
pub record Connection : Type 0 where
  pub bodies : List (List ℕ)
  pub ended : Result Report ServeFault

-- a report counts the bodies by kind
abbrev pub CountsBodies : Layout → List (List ℕ) → Result Report ServeFault → Type 0
CountsBodies t bodies (Ok report) = Reports t report bodies
CountsBodies t bodies (Err fault) = Unit {0}

-- ---- its lines

-- how many frames came, by kind
abbrev pub report_text : Report → List ℕ
report_text r =
    codes "frames=" ++ (decimal r.frames
    ++ (codes " answered=" ++ (decimal r.answered ++ (codes " silent=" ++ (decimal r.silent
    ++ (codes " unreadable=" ++ (decimal r.unreadable ++ codes "\n")))))))

-- the line on the output: its report, or none where it ended with a fault
abbrev pub output_line : Result Report ServeFault → List ℕ
output_line (Ok report) = report_text report
output_line (Err fault) = []

-- the line on the fault stream: its fault, if it ended with one
abbrev pub fault_line : Result Report ServeFault → List ℕ
fault_line (Ok report) = []
fault_line (Err fault) = unwrap_or (stop_line (stop_of_serving fault)) []

-- what the output and the fault stream hold, where it is known
pub record Lines : Type 0 where
  pub output : Option (List ℕ)
  pub faults : Option (List ℕ)

-- this on the output, and this on the fault stream
abbrev pub lines : Option (List ℕ) → Option (List ℕ) → Lines
lines output faults = record { output = output; faults = faults }

-- ---- all of them

-- at most so many were served, on one journal: it holds the first orders of the bodies of all of them, in their order
pub record OneJournal (t : Layout) (old new : Books) (count : ℕ)
    (connections : List Connection) : Type 0 where
  pub few : length connections ≤ count
  pub journal : new ≡ books_after_bodies t old (flat_map (λ c. c.bodies) connections)
  pub counted : All (λ c. CountsBodies t c.bodies c.ended) connections

-- all of them were served and told, one after the other, and none ended for want of memory
pub record TellsAll (before after : Lines) (count : ℕ)
    (connections : List Connection) : Type 0 where
  pub every : length connections ≡ count
  pub output : Appends before.output after.output
      (flat_map (λ c. output_line c.ended) connections)
  pub faults : Appends before.faults after.faults (flat_map (λ c. fault_line c.ended) connections)
  pub memory : All (λ c. c.ended ≢ Err Memory) connections

-- a host on a port: its books, and what was told
pub record Port : Type 0 where
  pub books : Books
  pub told : Lines

-- these books, and these lines that were told
abbrev pub port : Books → Lines → Port
port books told = record { books = books; told = told }

-- the connections have one journal, and the status is 0 where all were served and told, else 3
pub record Serves (t : Layout) (before after : Port) (count status : ℕ) : Type 0 where
  pub connections : List Connection
  pub one_journal : OneJournal t before.books after.books count connections
  pub outcome : ((status ≡ 0) × TellsAll before.told after.told count connections) ⊎ (status ≡ 3)
