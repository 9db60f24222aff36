-- What comes of the job that the words ask.
-- Inner: bodies and proofs cite it, and no public clause does.
use Rattle.std.specs.Prelude.{◌≡◌, ℕ, List, Option, IsSomeAnd, Result, Ok, Err}
use Rattle.iso_host.specs.Counts.{Usage}
use Rattle.iso_host.specs.declared.fault.Report.{Report}
use Rattle.iso_cli.specs.AtHand.{AtHand}
use Rattle.iso_cli.specs.Check.{ChecksOnStreams}
use Rattle.iso_cli.specs.Convert.{ConvertsOnStreams}
use Rattle.iso_cli.specs.Echo.{EchoesOnStreams}
use Rattle.iso_cli.specs.Refused.{ConvertStops, EchoStops, NamesNone, ShowStops}
use Rattle.iso_cli.specs.Run.{RunsOnStreams}
use Rattle.iso_cli.specs.Show.{ShowsOnStreams}
use Rattle.iso_cli.specs.Stop.{status_of}
use Rattle.iso_cli.specs.Turns.{RunUsesAllTurns}
use Rattle.iso_cli.specs.Words.{Asks, AsksNothing}
use Rattle.iso_cli.specs.declared.stop.Stop.{Stop}
use Rattle.iso_cli.specs.declared.stop.Stop.TheVariants.{TooManyTurns, Words}
use Rattle.iso_cli.specs.declared.words.Job.{Job}
use Rattle.iso_cli.specs.declared.words.Job.TheVariants.{Echo, Check, Show, Convert, Run}

-- what the job writes, and what a host reports
abbrev pub DoesJob : Job → AtHand → Option Report → Type 0
DoesJob Echo w report = EchoesOnStreams w.input w.before w.after
DoesJob (Check table) w report = ChecksOnStreams w.file table.now w.before w.after
DoesJob (Show table clear) w report = ShowsOnStreams w table.now clear
DoesJob (Convert from to) w report = ConvertsOnStreams w from.now to.now
DoesJob (Run table accounts header) w report =
    IsSomeAnd report (RunsOnStreams w table.now accounts.now header)

-- what stops it with status 1, but for a host
abbrev pub StopsJob : Job → (List ℕ → Option (List ℕ)) → Option (List ℕ) → Stop → Type 0
StopsJob Echo file input stop = EchoStops input stop
StopsJob (Check table) file input stop = NamesNone file table.now stop
StopsJob (Show table clear) file input stop = ShowStops file table.now input stop
StopsJob (Convert from to) file input stop = ConvertStops file from.now to.now input stop
StopsJob (Run table accounts header) file input stop = status_of stop ≡ 1

-- the words ask a job, and that was done
pub record DoesAskedJob (words : List (List ℕ)) (w : AtHand) (report : Option Report) : Type 0 where
  pub job : Job
  pub asked : Asks words job
  pub does : DoesJob job w report

-- the words ask a job, and this stops it
pub record StopsAskedJob (words : List (List ℕ)) (file : List ℕ → Option (List ℕ))
    (input : Option (List ℕ)) (stop : Stop) : Type 0 where
  pub job : Job
  pub asked : Asks words job
  pub stops : StopsJob job file input stop

-- what it means that this is the stop
pub record IsStopOf (words : List (List ℕ)) (w : AtHand) (before after : Usage)
    (stop : Stop) : Type 0 where
  pub nothing : stop ≡ Words → AsksNothing words
  pub refused : status_of stop ≡ 1 → StopsAskedJob words w.file w.input stop
  pub turns : stop ≡ TooManyTurns → RunUsesAllTurns words before after

-- the job was done, or something stopped it: what it means that this was reported, or that it stopped so
abbrev pub Performs : List (List ℕ) → AtHand → Usage → Usage → Result (Option Report) Stop → Type 0
Performs words w before after (Ok report) = DoesAskedJob words w report
Performs words w before after (Err stop) = IsStopOf words w before after stop
