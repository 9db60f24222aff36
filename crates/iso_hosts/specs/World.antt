-- Any number of hosts over one log of batches, and what may happen to them.
use Rattle.std.specs.Prelude.{ℕ, ◌+◌, ◌==◌, ◌&&◌, min, Bool, true, false, if◌then◌else◌}
use Rattle.std.specs.Prelude.{Option, Some, None, List, [], ◌∷◌, ◌++◌, take, length, slice_get}
use Rattle.iso_order.specs.Order.{Instruction, same_order}
use Rattle.iso_issuer.specs.declared.account.Account.{Account}
use Rattle.iso_issuer.specs.Journal.{is_entered}
use Rattle.iso_issuer.specs.Decision.{journal_of, answer_for}
use Rattle.iso_durable.specs.Durable.{Durable}
use Rattle.iso_durable.specs.World.{World as Alone, Told, Comes, happens}

-- a batch of orders, which names its place in the log and the host that wrote it
pub record Batch : Type 0 where
  pub place : ℕ
  pub writer : ℕ
  pub orders : List Instruction

-- orders that a host decided, and the answers that wait until these are kept
pub record Decisions : Type 0 where
  pub orders : List Instruction
  pub answers : List Told

-- how many batches a host has seen, what it sent and is in doubt of, and what it decided behind it
pub record Host : Type 0 where
  pub seen : ℕ
  pub in_doubt : Option Decisions
  pub behind : Decisions

-- the batches that are kept, all that were ever sent, the hosts by number, and the answers told
pub record World : Type 0 where
  pub accounts : List Account
  pub limit : ℕ
  pub kept : List Batch
  pub sent : List Batch
  pub hosts : ℕ → Host
  pub told : List Told

-- An order comes to a host. A host sends its batch. A batch that was ever sent arrives at the log,
-- late, twice or never. A host reads the next batch. A host crashes, and starts on so many batches
pub data Event : Type 0 where
  Receives : (host : ℕ) → (order : Instruction) → Event
  Sends : (host : ℕ) → Event
  Arrives : (which : ℕ) → Event
  Reads : (host : ℕ) → Event
  Restarts : (host seen : ℕ) → Event

-- ---- what a host knows

-- the orders of batches, in their order
abbrev pub orders_in : List Batch → List Instruction
orders_in [] = []
orders_in (b ∷ bs) = b.orders ++ orders_in bs

-- the orders that a host has seen in the log
abbrev pub seen_by : World → Host → List Instruction
seen_by w h = orders_in (take h.seen w.kept)

-- the orders that it is in doubt of
abbrev pub doubted : Option Decisions → List Instruction
doubted None = []
doubted (Some d) = d.orders

-- the host as one that is alone, with what it has seen and what it is in doubt of on its disk
abbrev pub alone : World → Host → Alone
alone w h = record {
  host = record {
    accounts = w.accounts;
    limit = w.limit;
    synced = seen_by w h ++ doubted h.in_doubt;
    pending = h.behind.orders;
  };
  waiting = h.behind.answers;
  told = [];
}

-- the state of the host of this number
abbrev pub host_at : World → ℕ → Durable
host_at w n = (alone w (w.hosts n)).host

-- nothing was decided
abbrev pub nothing : Decisions
nothing = record { orders = []; answers = [] }

-- a host that has seen so many batches, and decided nothing since
abbrev pub fresh : ℕ → Host
fresh seen = record { seen = seen; in_doubt = None; behind = nothing }

-- the host of this number is now this one
abbrev pub with_host : (ℕ → Host) → ℕ → Host → ℕ → Host
with_host hosts n h i = if i == n then h else hosts i

-- ---- an order comes

-- the answer that the orders which the host has seen give
abbrev pub known_answer : World → Host → Instruction → Told
known_answer w h o = record {
  order = o;
  answer = answer_for w.accounts (journal_of w.accounts (seen_by w h)) o;
}

-- it decides the order as a host does that is alone
abbrev pub decides : World → Host → Instruction → Host
decides w h o =
    let after = happens (alone w h) (Comes o) in
    record {
      seen = h.seen;
      in_doubt = h.in_doubt;
      behind = record { orders = after.host.pending; answers = after.waiting };
    }

-- an order that the host has seen in the log is answered at once; the answer to another waits
abbrev pub receives : World → ℕ → Host → Instruction → World
receives w n h o =
    if is_entered (seen_by w h) o.key
    then record w { told = w.told ++ known_answer w h o ∷ [] }
    else record w { hosts = with_host w.hosts n (decides w h o) }

-- ---- a batch is sent, and arrives

-- what a host sends: what it is in doubt of, once more; or what it decided
abbrev pub to_send : Option Decisions → Decisions → Decisions
to_send None behind = behind
to_send (Some d) behind = d

-- what it has then decided behind that
abbrev pub left_behind : Option Decisions → Decisions → Decisions
left_behind None behind = nothing
left_behind (Some d) behind = behind

-- its batch: for the place behind what it has seen
abbrev pub batch_of : ℕ → Host → Batch
batch_of n h = record {
  place = h.seen;
  writer = n;
  orders = (to_send h.in_doubt h.behind).orders;
}

-- the batch may arrive from now on, and the host is in doubt of it
abbrev pub sends : World → ℕ → Host → World
sends w n h = record w {
  sent = w.sent ++ batch_of n h ∷ [];
  hosts = with_host w.hosts n (record {
    seen = h.seen;
    in_doubt = Some (to_send h.in_doubt h.behind);
    behind = left_behind h.in_doubt h.behind;
  });
}

-- a batch is kept where its place is the next one, else it is lost
abbrev pub arrives : World → Option Batch → World
arrives w None = w
arrives w (Some b) =
    if b.place == length w.kept then record w { kept = w.kept ++ b ∷ [] } else w

-- ---- a host reads

-- orders that compare alike, one by one
abbrev pub same_orders : List Instruction → List Instruction → Bool
same_orders [] [] = true
same_orders (o ∷ os) (p ∷ ps) = same_order o p && same_orders os ps
same_orders [] (p ∷ ps) = false
same_orders (o ∷ os) [] = false

-- batches that compare alike as a whole: place, writer and orders
abbrev pub same_batch : Batch → Batch → Bool
same_batch a b = (a.place == b.place) && ((a.writer == b.writer) && same_orders a.orders b.orders)

-- its own batch is kept: the answers that waited for it are told
abbrev pub tells : World → ℕ → Host → Decisions → World
tells w n h d = record w {
  hosts = with_host w.hosts n (record {
    seen = h.seen + 1;
    in_doubt = None;
    behind = h.behind;
  });
  told = w.told ++ d.answers;
}

-- another's batch has the place: the host is fenced, and forgets what it decided
abbrev pub forgets : World → ℕ → Host → World
forgets w n h = record w { hosts = with_host w.hosts n (fresh (h.seen + 1)) }

-- it finds this batch, and compares it with the one that it is in doubt of
abbrev pub finds : World → ℕ → Host → Batch → Option Decisions → World
finds w n h b None = forgets w n h
finds w n h b (Some d) =
    if same_batch (batch_of n h) b then tells w n h d else forgets w n h

-- where it finds no batch, it stays in doubt
abbrev pub reads : World → ℕ → Host → Option Batch → World
reads w n h None = w
reads w n h (Some b) = finds w n h b h.in_doubt

-- ---- runs

-- an event
abbrev pub after_event : World → Event → World
after_event w (Receives n o) = receives w n (w.hosts n) o
after_event w (Sends n) = sends w n (w.hosts n)
after_event w (Arrives which) = arrives w (slice_get w.sent which)
after_event w (Reads n) = reads w n (w.hosts n) (slice_get w.kept (w.hosts n).seen)
after_event w (Restarts n seen) = record w {
  hosts = with_host w.hosts n (fresh (min seen (length w.kept)));
}

-- events, one after another
abbrev pub after_events : List Event → World → World
after_events [] w = w
after_events (e ∷ es) w = after_events es (after_event w e)

-- a log with these batches, of which no host has seen any
abbrev pub log_begins : List Account → ℕ → List Batch → World
log_begins accounts limit kept = record {
  accounts = accounts;
  limit = limit;
  kept = kept;
  sent = [];
  hosts = λ n. fresh 0;
  told = [];
}
