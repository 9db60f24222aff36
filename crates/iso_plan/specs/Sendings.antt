-- When orders were sent, and what closed them.
use Rattle.std.specs.Prelude.{◌-◌, ◌+◌, ◌==◌, ◌&&◌, ℕ, Bool, false, not, nat_lt, nat_le, min, List, length, slice_get, Option, Some, None, if◌then◌else◌}
use Rattle.std.specs.Option.{unwrap_or}
use Rattle.iso_plan.specs.declared.sendings.Sending.{Sending}

-- what is known of the orders by trace number, the first so many of which are of earlier runs
pub record KnownOrders : Type 0 where
  pub by_trace : List Sending
  pub earlier : ℕ

-- an order that wasn't sent
abbrev pub unsent : Sending
unsent = record { times = 0; first = 0; answer = None }

-- an order of an earlier run, which sent it once at least
abbrev pub of_earlier : Sending
of_earlier = record { times = 1; first = 0; answer = None }

-- the order of a trace number before this run sends anything
abbrev pub earlier_or_none : ℕ → ℕ → Sending
earlier_or_none earlier n = if nat_le n earlier then of_earlier else unsent

-- what is known of the order of a trace number
abbrev pub sending_at : List Sending → ℕ → Sending
sending_at by_trace n = unwrap_or (slice_get by_trace n) unsent

-- an order is sent once more; the moment of the first sending stays
abbrev pub sent_again : ℕ → Sending → Sending
sent_again now s = record {
  times = min (s.times + 1) 4294967295;
  first = if s.times == 0 then now else s.first;
  answer = s.answer;
}

-- an answer of that digest closed a transaction, if the order was sent
abbrev pub closed_by : ℕ → List Sending → ℕ → Sending
closed_by answer by_trace n =
    if nat_lt n (length by_trace)
    then record (sending_at by_trace n) { answer = Some answer }
    else sending_at by_trace n

-- from the first sending to a moment, of an order that was sent once, in this run
abbrev pub latency_of : KnownOrders → ℕ → ℕ → Option ℕ
latency_of k stan now =
    if (sending_at k.by_trace stan).times == 1 && nat_lt k.earlier stan
    then Some (now - (sending_at k.by_trace stan).first)
    else None

-- another digest than that of the answer that closed a transaction before
abbrev pub differs_from : ℕ → Option ℕ → Bool
differs_from answer None = false
differs_from answer (Some first) = not (first == answer)
