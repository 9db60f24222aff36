-- What telling a stop leaves.
use Rattle.std.specs.Prelude.{◌≡◌, ◌⊎◌, ℕ, ◌+◌, List, IfSome}
use Rattle.std.specs.Io.KnownBytes.{Appends}
use Rattle.iso_host.specs.Counts.{Stream}
use Rattle.iso_host.specs.Writing.{WritesSome}
use Rattle.iso_host.specs.declared.fault.Report.{Report}
use Rattle.iso_cli.specs.Connections.{report_text}
use Rattle.iso_cli.specs.declared.stop.Stop.{Stop}
use Rattle.iso_cli.specs.declared.stop.Stop.TheVariants.{Memory}
use Rattle.iso_cli.specs.Stop.{status_of, stop_line, line_of}

-- the whole line was written, no call failed, and the status is the stop's own
pub record WritesLine (before after : Stream) (line : List ℕ) (status given : ℕ) : Type 0 where
  pub whole : Appends before.bytes after.bytes line
  pub failures : after.counts.failures ≡ before.counts.failures
  pub given_is : given ≡ status

-- the last call failed and no other, no more than the front of the line was written, and the status is 3
pub record FailsAtLine (before after : Stream) (line : List ℕ) (given : ℕ) : Type 0 where
  pub front : WritesSome before.bytes after.bytes line
  pub failures : after.counts.failures ≡ before.counts.failures + 1
  pub status : given ≡ 3

-- the line was told, or its writer failed
abbrev pub TellsLine : Stream → Stream → List ℕ → ℕ → ℕ → Type 0
TellsLine before after line status given =
    WritesLine before after line status given ⊎ FailsAtLine before after line given

-- the same of a stop whose line names no further fault, with this status
abbrev pub TellsAs : Stream → Stream → Stop → ℕ → ℕ → Type 0
TellsAs before after stop status given =
    IfSome (stop_line stop) (λ line. TellsLine before after line status given)

-- the same with the stop's own status
abbrev pub Tells : Stream → Stream → Stop → ℕ → Type 0
Tells before after stop given = TellsAs before after stop (status_of stop) given

-- the line of the stop, with this status; or that there is no memory for it, with 3
abbrev pub TellsLineOf : Stream → Stream → Stop → ℕ → ℕ → Type 0
TellsLineOf before after stop status given = TellsLine before after (line_of stop) status given
    ⊎ Tells before after Memory given

-- the line of one stop, and the status that fits it
abbrev pub TellsStop : Stream → Stream → ℕ → Type 0
TellsStop before after given =
    (stop : Stop) × TellsLineOf before after stop (status_of stop) given

-- the line of a report, with status 0; or there is no memory for it
abbrev pub TellsReport : Stream → Stream → Report → ℕ → Type 0
TellsReport before after report given = TellsLine before after (report_text report) 0 given
    ⊎ Tells before after Memory given

-- nothing, with status 0; or a report; or a stop
abbrev pub TellsEnding : Stream → Stream → ℕ → Type 0
TellsEnding before after given =
    ((given ≡ 0) × (after.bytes ≡ before.bytes) × (after.counts ≡ before.counts))
    ⊎ (((report : Report) × TellsReport before after report given) ⊎ TellsStop before after given)
