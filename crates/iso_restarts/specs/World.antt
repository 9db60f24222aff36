-- Both ends, each of which may crash, and what may happen to them.
use Rattle.std.specs.Prelude.{ℕ, List, [], ◌∷◌, ◌++◌, slice_get, Option, Some, None}
use Rattle.iso_order.specs.Order.{Instruction}
use Rattle.iso_issuer.specs.declared.account.Account.{Account}
use Rattle.iso_durable.specs.Durable.{Durable}
use Rattle.iso_acquirer.specs.declared.event.Event.{Event as Passing}
use Rattle.iso_acquirer.specs.declared.event.Event.TheVariants.{Begin, Timeout, Deliver, Answer, Other}
use Rattle.iso_acquirer.specs.declared.event.Given.{Given}
use Rattle.iso_acquirer.specs.Acquirer.{Party, debit_of}
use Rattle.iso_outages.specs.World.{World as Ends, Event as Outage, Passes, Syncs, Crashes, receives, receives_other}
use Rattle.iso_outages.specs.World.{happens as goes}
use Rattle.iso_restarts.specs.Diary.{Diary, on_disk, in_memory, unsent, begins, times_out, hears, keeps, crashes}

-- the acquirer over its notes and what it sent, the host, the answers that wait for its sync, and those given
pub record World : Type 0 where
  pub acquirer : Diary
  pub sent : List Instruction
  pub host : Durable
  pub waiting : List Given
  pub given : List Given

-- something passes between both ends, or the host syncs or crashes; the acquirer's notes are synced, and the orders that
-- wait for that are sent; or the acquirer crashes, and starts again on the notes on its disk and so many of those behind them
pub data Event : Type 0 where
  Goes : (what : Outage) → Event
  Keeps : Event
  Restarts : (kept : ℕ) → Event

-- both ends as they are where the acquirer never crashes: this acquirer, which sent these orders
abbrev pub ends_with : World → Party → List Instruction → Ends
ends_with w party sent =
    record { acquirer = party; sent = sent; host = w.host; waiting = w.waiting; given = w.given }

-- ---- the acquirer's end

-- its notes are these, and nothing else changes
abbrev pub with_notes : World → Diary → World
with_notes w d =
    record { acquirer = d; sent = w.sent; host = w.host; waiting = w.waiting; given = w.given }

-- it is told a given answer
abbrev pub is_told : World → Option Given → World
is_told w None = w
is_told w (Some g) = with_notes w (hears w.acquirer g.key g.answer.code)

-- ---- the host's end

-- the host is as in these ends, and the acquirer stays
abbrev pub with_host : World → Ends → World
with_host w ends = record {
  acquirer = w.acquirer;
  sent = w.sent;
  host = ends.host;
  waiting = ends.waiting;
  given = ends.given;
}

-- the ends that the host sees: the orders that were sent reach it
abbrev pub for_host : World → Ends
for_host w = ends_with w (on_disk w.acquirer) w.sent

-- ---- runs

-- what passes between both ends; what can't happen changes nothing
abbrev pub passes : World → Passing → World
passes w (Begin pan amount currency sent) =
    with_notes w (begins w.acquirer (debit_of (in_memory w.acquirer) pan amount currency sent))
passes w (Timeout stan) = with_notes w (times_out w.acquirer stan)
passes w (Deliver place) = with_host w (receives (for_host w) (slice_get w.sent place))
passes w (Answer place) = is_told w (slice_get w.given place)
passes w (Other o) = with_host w (receives_other (for_host w) o)

-- an event
abbrev pub happens : World → Event → World
happens w (Goes (Passes e)) = passes w e
happens w (Goes Syncs) = with_host w (goes (for_host w) Syncs)
happens w (Goes (Crashes kept)) = with_host w (goes (for_host w) (Crashes kept))
happens w Keeps = record {
  acquirer = keeps w.acquirer;
  sent = w.sent ++ unsent w.acquirer;
  host = w.host;
  waiting = w.waiting;
  given = w.given;
}
happens w (Restarts kept) = with_notes w (crashes kept w.acquirer)

-- events, one after another
abbrev pub run : List Event → World → World
run [] w = w
run (e ∷ es) w = run es (happens w e)

-- both ends, unused
abbrev pub unused : ℕ → List Account → ℕ → World
unused id accounts limit = record {
  acquirer = record { id = id; synced = []; pending = [] };
  sent = [];
  host = record { accounts = accounts; limit = limit; synced = []; pending = [] };
  waiting = [];
  given = [];
}
