-- What became of the bytes that were explained.
use Rattle.std.specs.Prelude.{◌≡◌, ℕ, List, Result, Ok, Err}
use Rattle.iso_table.specs.Layout.{Layout}
use Rattle.iso_wire.specs.Contents.{Contents}
use Rattle.iso_wire.specs.Reading.{message_at}
use Rattle.iso_wire.specs.declared.fault.UnpackFault.{UnpackFault}
use Rattle.iso_explain.specs.declared.outcome.Outcome.{Outcome}
use Rattle.iso_explain.specs.declared.outcome.Outcome.TheVariants as outcomes

-- what reading gives: how many bytes the message takes, or where they stop
abbrev pub outcome_in : Result (Contents × ℕ) UnpackFault → Outcome
outcome_in (Ok read) = outcomes.Read read.1
outcome_in (Err e) = outcomes.Stopped e

-- what became of the bytes is what `unpack` answers
abbrev pub IsOutcome : Layout → List ℕ → Outcome → Type 0
IsOutcome t b outcome = outcome ≡ outcome_in (message_at t b)
