-- What a line of a schedule may be.
use Rattle.iso_acquirer.specs.World.{IsFairEvent}
use Rattle.iso_events.specs.declared.line.ScheduleLine.{ScheduleLine}
use Rattle.iso_events.specs.declared.line.ScheduleLine.TheVariants.{Said, Event, Unknown}

-- an event of a line is one that can be played
abbrev pub IsFairLine : ScheduleLine → Type 0
IsFairLine Said = Unit {0}
IsFairLine (Event event) = IsFairEvent event
IsFairLine Unknown = Unit {0}
