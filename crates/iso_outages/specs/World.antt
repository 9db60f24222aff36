-- Both ends over a host that crashes, and what may happen to them.
use Rattle.std.specs.Prelude.{ℕ, List, [], ◌∷◌, ◌++◌, ◌==◌, length, nat_lt, slice_get, Option, Some, None, Result, Ok, Err, if◌then◌else◌}
use Rattle.iso_order.specs.Order.{Instruction}
use Rattle.iso_issuer.specs.declared.account.Account.{Account}
use Rattle.iso_durable.specs.Durable.{Durable, comes, outcome, syncs, crashes}
use Rattle.iso_acquirer.specs.declared.event.Event.{Event as Passing}
use Rattle.iso_acquirer.specs.declared.event.Event.TheVariants.{Begin, Timeout, Deliver, Answer, Other}
use Rattle.iso_acquirer.specs.declared.event.Given.{Given}
use Rattle.iso_acquirer.specs.declared.fault.AcqFault.{AcqFault}
use Rattle.iso_acquirer.specs.declared.slot.Slot.{Slot}
use Rattle.iso_acquirer.specs.Acquirer.{Party, slots_with, debit_of, timeout, slots_after_answer}

-- the acquirer and what it sent, the host, the answers that wait for its sync, and those given
pub record World : Type 0 where
  pub acquirer : Party
  pub sent : List Instruction
  pub host : Durable
  pub waiting : List Given
  pub given : List Given

-- something passes between both ends; the log is synced, and the answers that wait are given; or
-- the host crashes and starts again on what is on the disk, and so many of the orders behind it
pub data Event : Type 0 where
  Passes : (what : Passing) → Event
  Syncs : Event
  Crashes : (kept : ℕ) → Event

-- ---- what passes between both ends; what can't happen changes nothing

-- the acquirer sends an order, and keeps these slots
abbrev pub sends : World → Instruction × List Slot → World
sends w (o, slots) = record {
  acquirer = record { id = w.acquirer.id; slots = slots };
  sent = w.sent ++ o ∷ [];
  host = w.host;
  waiting = w.waiting;
  given = w.given;
}

-- it begins a transaction where a trace number is left
abbrev pub begins : World → Instruction → World
begins w o =
    if nat_lt (length w.acquirer.slots) 999999 then sends w (o, slots_with w.acquirer.slots o)
    else w

-- it sends what it sends where no answer came in time
abbrev pub asks : World → Result (Instruction × List Slot) AcqFault → World
asks w (Ok sent) = sends w sent
asks w (Err fault) = w

-- the host decides a sent order, and the answer waits
abbrev pub receives : World → Option Instruction → World
receives w None = w
receives w (Some o) = record {
  acquirer = w.acquirer;
  sent = w.sent;
  host = comes w.host o;
  waiting = w.waiting ++ record { key = o.key; answer = outcome w.host o } ∷ [];
  given = w.given;
}

-- the acquirer hears a given answer
abbrev pub hears : World → Option Given → World
hears w None = w
hears w (Some g) = record {
  acquirer = record {
    id = w.acquirer.id;
    slots = slots_after_answer w.acquirer.slots g.key g.answer.code;
  };
  sent = w.sent;
  host = w.host;
  waiting = w.waiting;
  given = w.given;
}

-- the host decides an order of another acquirer
abbrev pub receives_other : World → Instruction → World
receives_other w o =
    if o.key.acquirer == w.acquirer.id then w
    else record {
      acquirer = w.acquirer;
      sent = w.sent;
      host = comes w.host o;
      waiting = w.waiting;
      given = w.given;
    }

-- what the world is once that passed between both ends
abbrev pub passes : World → Passing → World
passes w (Begin pan amount currency sent) = begins w (debit_of w.acquirer pan amount currency sent)
passes w (Timeout stan) = asks w (timeout w.acquirer.slots stan)
passes w (Deliver place) = receives w (slice_get w.sent place)
passes w (Answer place) = hears w (slice_get w.given place)
passes w (Other o) = receives_other w o

-- ---- runs

-- an event
abbrev pub happens : World → Event → World
happens w (Passes e) = passes w e
happens w Syncs = record {
  acquirer = w.acquirer;
  sent = w.sent;
  host = syncs w.host;
  waiting = [];
  given = w.given ++ w.waiting;
}
happens w (Crashes kept) = record {
  acquirer = w.acquirer;
  sent = w.sent;
  host = crashes kept w.host;
  waiting = [];
  given = w.given;
}

-- events, one after another
abbrev pub run : List Event → World → World
run [] w = w
run (e ∷ es) w = run es (happens w e)

-- both ends, unused
abbrev pub unused : ℕ → List Account → ℕ → World
unused id accounts limit = record {
  acquirer = record { id = id; slots = [] };
  sent = [];
  host = record { accounts = accounts; limit = limit; synced = []; pending = [] };
  waiting = [];
  given = [];
}
