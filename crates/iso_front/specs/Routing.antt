-- Where messages go.
use Rattle.std.specs.Prelude.{ℕ, ◌==◌, Bool, true, false, List, length, Option, Some, None}
use Rattle.std.specs.Prelude.{Result, Ok, Err, unwrap_or, if◌then◌else◌}
use Rattle.iso_table.specs.Layout.{Layout}
use Rattle.iso_wire.specs.declared.fault.UnpackFault.{UnpackFault}
use Rattle.iso_wire.specs.Contents.{Contents}
use Rattle.iso_wire.specs.Reading.{message_at}
use Rattle.iso_order.specs.declared.key.TxKey.{TxKey}
use Rattle.iso_order.specs.declared.verdict.Verdict.{Verdict}
use Rattle.iso_order.specs.declared.verdict.Verdict.TheVariants.{Order, Reply, Silent}
use Rattle.iso_order.specs.Pan.{AccountNumber}
use Rattle.iso_order.specs.Verdict.{verdict}
use Rattle.iso_shards.specs.Shards.{account_named}
use Rattle.iso_front.specs.declared.route.Route.{Route}
use Rattle.iso_front.specs.declared.route.Route.TheVariants.{One, All, Nobody, Any, Unanswered}
use Rattle.iso_front.specs.declared.route.Route.TheVariants.{Unreadable}
use Rattle.iso_front.specs.Shards.{Split, shard_of}

-- what the message asks that was read, where it takes so many bytes
abbrev pub asked_by : ℕ → Result (Contents × ℕ) UnpackFault → Option Verdict
asked_by size (Err e) = None
asked_by size (Ok x) = if x.1 == size then Some (verdict x.0) else None

-- what the bytes ask that are a message to the last one; none, where they are none
abbrev pub asked_in : Layout → List ℕ → Option Verdict
asked_in t body = asked_by (length body) (message_at t body)

-- an order on an account goes to the shard that has it
abbrev pub account_route : TxKey → Option ℕ → Route
account_route key (Some shard) = One shard key
account_route key None = Nobody key

-- an order that names no account goes to all
abbrev pub order_route : Split → TxKey → Option AccountNumber → Route
order_route s key (Some pan) = account_route key (shard_of s pan)
order_route s key None = All key

-- what asks for no order goes to any, if it wants an answer
abbrev pub verdict_route : Split → Verdict → Route
verdict_route s (Order o) = order_route s o.key (account_named o)
verdict_route s (Reply code) = Any code
verdict_route s Silent = Unanswered

-- where what is asked goes
abbrev pub route_of : Split → Option Verdict → Route
route_of s (Some v) = verdict_route s v
route_of s None = Unreadable

-- an order goes to the shard at a place
abbrev pub goes_to : Route → ℕ → Bool
goes_to (One shard key) n = shard == n
goes_to (All key) n = true
goes_to (Nobody key) n = false
goes_to (Any code) n = false
goes_to Unanswered n = false
goes_to Unreadable n = false

-- the place of the shard that has an account number; behind all of them, where none has it
abbrev pub home_of : Split → AccountNumber → ℕ
home_of s pan = unwrap_or (shard_of s pan) s.count
