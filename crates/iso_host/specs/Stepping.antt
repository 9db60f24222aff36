-- One step of a peer, as its callers see it.
-- Inner: bodies and proofs cite it, and no public clause does.
use Rattle.std.specs.Prelude.{Bool, true, false, Option, Some, None}
use Rattle.iso_host.specs.declared.handled.Handled.{Handled}
use Rattle.iso_host.specs.declared.peer.Taken.{Taken}
use Rattle.iso_host.specs.declared.taking.Step.{Step}

-- what came of a body, where a frame is ended
abbrev pub handled_at : Bool → Handled → Option Handled
handled_at true told = Some told
handled_at false told = None

-- what was taken
abbrev pub taken_as : Step → Handled → Taken
taken_as step told = record { used = step.used; handled = handled_at step.ended told }
