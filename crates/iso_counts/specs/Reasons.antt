-- The places of the reasons for which peers are refused and closed.
use Rattle.std.specs.Prelude.{ℕ}
use Rattle.iso_lines.specs.declared.event.Refusal.{Refusal}
use Rattle.iso_lines.specs.declared.event.Refusal.TheVariants as Refuses
use Rattle.iso_lines.specs.declared.standing.Closing.{Closing}
use Rattle.iso_lines.specs.declared.standing.Closing.TheVariants as Closes

-- the place of a reason to refuse a peer
abbrev pub refusal_place : Refusal → ℕ
refusal_place Refuses.Peers = 0
refusal_place Refuses.Network = 1
refusal_place Refuses.Memory = 2

-- the place of a reason to close a connection
abbrev pub closing_place : Closing → ℕ
closing_place Closes.Ended = 0
closing_place Closes.CutFrame = 1
closing_place Closes.Failed = 2
closing_place Closes.BadHeader = 3
closing_place Closes.Memory = 4
closing_place Closes.Idle = 5
closing_place Closes.UnfinishedFrame = 6
closing_place Closes.DoesNotRead = 7
closing_place Closes.Stopped = 8
