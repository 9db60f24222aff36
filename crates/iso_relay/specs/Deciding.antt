-- Where a frame goes, and whether an answer is passed on.
use Rattle.std.specs.Prelude.{ℕ, ◌==◌, List, Option, Some, None, if◌then◌else◌}
use Rattle.iso_order.specs.declared.told.Told.{Told}
use Rattle.iso_order.specs.Key.{class_digit}
use Rattle.iso_front.specs.declared.route.Route.{Route}
use Rattle.iso_front.specs.declared.route.Route.TheVariants as routes
use Rattle.iso_relay.specs.declared.entry.Entry.{Entry}
use Rattle.iso_relay.specs.declared.decision.Decision.{Decision}
use Rattle.iso_relay.specs.declared.decision.Decision.TheVariants.{PassOn}
use Rattle.iso_relay.specs.Entries.{decided, heard_under}
use Rattle.iso_relay.specs.declared.deciding.Sending.{Sending}
use Rattle.iso_relay.specs.declared.deciding.Sending.TheVariants.{Nowhere, One, All}

-- what is on no shard's account, and what asks for no order, goes to the first shard
abbrev pub sending_of : Route → Sending
sending_of (routes.One shard key) = One shard
sending_of (routes.All key) = All
sending_of (routes.Nobody key) = One 0
sending_of (routes.Any code) = One 0
sending_of routes.Unanswered = Nowhere
sending_of routes.Unreadable = Nowhere

-- an answer to a reversal (class 4; ISO 8583:1987, message type identifier) is passed on by what all shards say
abbrev pub taken_told : ℕ → Told → List Entry → Decision
taken_told shard told es =
    if class_digit told.key == 4 then decided shard told.code (heard_under told.key es) else PassOn

-- any other as it comes
abbrev pub taken : ℕ → Option Told → List Entry → Decision
taken shard None es = PassOn
taken shard (Some told) es = taken_told shard told es
