-- What holds of hosts over one log.
use Rattle.std.specs.Prelude.{◌≡◌, ◌⊎◌, ◌<◌, ◌≤◌, ℕ, ◌+◌, ◌==◌, Bool, false, Some, None}
use Rattle.std.specs.Prelude.{List, [], ◌∷◌, ◌++◌, take, length, slice_get}
use Rattle.std.specs.List.{AllByRecursion}
use Rattle.iso_order.specs.Codes.{system_malfunction}
use Rattle.iso_order.specs.Order.{Instruction}
use Rattle.iso_order.specs.Outcome.{Outcome}
use Rattle.iso_issuer.specs.declared.account.Account.{Account}
use Rattle.iso_durable.specs.Durable.{syncs, come_all, outcomes}
use Rattle.iso_durable.specs.World.{Told, IsAnswered, IsStart}
use Rattle.iso_hosts.specs.World.{World, Batch, Decisions, Host, orders_in, seen_by, host_at, fresh}
use Rattle.iso_hosts.specs.World.{to_send, batch_of, arrives, after_event, after_events, log_begins}
use Rattle.iso_hosts.specs.World.{Event, Receives, Sends, Arrives, Reads, Restarts}

-- ---- after every list of events

-- it holds with these accounts and this limit after every list of events, over a log that one host
-- could start on
abbrev pub AfterEachRun : (List Account → ℕ → World → Type 0) → Type 0
AfterEachRun Holds =
    (accounts : List Account) (limit : ℕ) (kept : List Batch) (events : List Event) →
    IsStart limit (orders_in kept) →
    Holds accounts limit (after_events events (log_begins accounts limit kept))

-- each answer that any host told is the one that the log gives to its order
abbrev pub NoHostIsWrong : Type 0
NoHostIsWrong =
    AfterEachRun (λ accounts limit w.
    AllByRecursion (IsAnswered accounts (orders_in w.kept)) w.told)

-- two answers to one order are one answer, whichever hosts told them, and whenever
abbrev pub HostsAgree : Type 0
HostsAgree =
    AfterEachRun (λ accounts limit w. (i j : ℕ) (t u : Told) →
    slice_get w.told i ≡ Some t → slice_get w.told j ≡ Some u →
    t.order ≡ u.order → t.answer ≡ u.answer)

-- no two orders that are kept have one key, and there are no more than the limit
abbrev pub KeptOnce : Type 0
KeptOnce = AfterEachRun (λ accounts limit w. IsStart limit (orders_in w.kept))

-- no batch was sent to a place behind the next one, so the log has no gap
abbrev pub NoGaps : Type 0
NoGaps = AfterEachRun (λ accounts limit w. AllByRecursion (λ b. b.place ≤ length w.kept) w.sent)

-- no host has seen more than is kept
abbrev pub SeenIsKept : Type 0
SeenIsKept = AfterEachRun (λ accounts limit w. (n : ℕ) → (w.hosts n).seen ≤ length w.kept)

-- what is kept stays there, at its place
abbrev pub LogOnlyGrows : Type 0
LogOnlyGrows =
    (w : World) (events : List Event) →
    (more : List Batch) × ((after_events events w).kept ≡ w.kept ++ more)

-- a batch whose place is taken is never kept, however late it arrives
abbrev pub LateIsLost : Type 0
LateIsLost =
    (w : World) (events : List Event) (b : Batch) → b.place < length w.kept →
    arrives (after_events events w) (Some b) ≡ after_events events w

-- ---- a host that reads the next batch

-- it finds the batch that it is in doubt of: it tells the answers that waited for it, and goes on
-- with what it decided behind
abbrev pub OwnIsTold : Type 0
OwnIsTold =
    (w : World) (n : ℕ) (d : Decisions) →
    (w.hosts n).in_doubt ≡ Some d →
    slice_get w.kept (w.hosts n).seen ≡ Some (batch_of n (w.hosts n)) →
    ((after_event w (Reads n)).told ≡ w.told ++ d.answers)
    × ((after_event w (Reads n)).hosts n
    ≡ record { seen = (w.hosts n).seen + 1; in_doubt = None; behind = (w.hosts n).behind })

-- the host is in doubt of this batch
abbrev pub IsInDoubtOf : ℕ → Host → Batch → Type 0
IsInDoubtOf n h b = (d : Decisions) × (h.in_doubt ≡ Some d) × (b ≡ batch_of n h)

-- it was cut off, and finds another batch: it tells nothing, and forgets what it decided
abbrev pub FencedSaysNothingNew : Type 0
FencedSaysNothingNew =
    (w : World) (n : ℕ) (b : Batch) →
    slice_get w.kept (w.hosts n).seen ≡ Some b → (IsInDoubtOf n (w.hosts n) b → ⊥) →
    ((after_event w (Reads n)).told ≡ w.told)
    × ((after_event w (Reads n)).hosts n ≡ fresh ((w.hosts n).seen + 1))

-- it has seen the orders of that batch behind those before it
abbrev pub ReadsOn : Type 0
ReadsOn =
    (w : World) (n : ℕ) (b : Batch) →
    slice_get w.kept (w.hosts n).seen ≡ Some b →
    seen_by (after_event w (Reads n)) ((after_event w (Reads n)).hosts n)
    ≡ seen_by w (w.hosts n) ++ b.orders

-- ---- the other hosts

-- an event of this host
abbrev pub is_of : ℕ → Event → Bool
is_of n (Receives k o) = n == k
is_of n (Sends k) = n == k
is_of n (Arrives which) = false
is_of n (Reads k) = n == k
is_of n (Restarts k seen) = n == k

-- what others do, and what arrives, leaves a host as it was
abbrev pub OthersLeaveIt : Type 0
OthersLeaveIt =
    (w : World) (n : ℕ) (e : Event) → (w.hosts n).seen ≤ length w.kept → is_of n e ≡ false →
    ((after_event w e).hosts n ≡ w.hosts n) × (host_at (after_event w e) n ≡ host_at w n)

-- ---- a call of a host is such a run

-- a start on a beginning of the log leaves the host that the event of that crash leaves
abbrev pub StartsAreEvents : Type 0
StartsAreEvents =
    (w : World) (n seen : ℕ) → seen ≤ length w.kept →
    host_at (after_event w (Restarts n seen)) n
    ≡ record {
      accounts = w.accounts;
      limit = w.limit;
      synced = orders_in (take seen w.kept);
      pending = [];
    }

-- orders come to a host; its batch is sent and arrives, and it reads what is kept
abbrev pub syncing : World → ℕ → List Instruction → List Event
syncing w n [] = Sends n ∷ Arrives (length w.sent) ∷ Reads n ∷ []
syncing w n (o ∷ os) = Receives n o ∷ syncing w n os

-- where it has seen all, its batch is kept, and the answers that waited for it are told
abbrev pub SyncSucceeds : Type 0
SyncSucceeds =
    (w : World) (n : ℕ) → (w.hosts n).seen ≡ length w.kept →
    ((after_events (syncing w n []) w).kept ≡ w.kept ++ batch_of n (w.hosts n) ∷ [])
    × ((after_events (syncing w n []) w).told
    ≡ w.told ++ (to_send (w.hosts n).in_doubt (w.hosts n).behind).answers)

-- where it is in doubt of nothing either, it is left as `answer_all` leaves it
abbrev pub CallsAreEvents : Type 0
CallsAreEvents =
    (w : World) (n : ℕ) (orders : List Instruction) →
    (w.hosts n).seen ≡ length w.kept → (w.hosts n).in_doubt ≡ None →
    host_at (after_events (syncing w n orders) w) n ≡ syncs (come_all (host_at w n) orders)

-- an answer is among these
abbrev pub IsAmong : List Told → Told → Type 0
IsAmong told t = (i : ℕ) × (slice_get told i ≡ Some t)

-- the answers to these orders were told, each to its order, but for those of a system malfunction
abbrev pub AreTold : List Told → List Instruction → List Outcome → Type 0
AreTold told [] [] = Unit {0}
AreTold told (o ∷ os) (a ∷ answers) =
    (IsAmong told (record { order = o; answer = a }) ⊎ (a.code ≡ system_malfunction))
    × AreTold told os answers
AreTold told [] (a ∷ answers) = ⊥
AreTold told (o ∷ os) [] = ⊥

-- and the answers that `answer_all` gives are told, but for those of a full journal
abbrev pub CallsAreTold : Type 0
CallsAreTold =
    (w : World) (n : ℕ) (orders : List Instruction) →
    (w.hosts n).seen ≡ length w.kept → (w.hosts n).in_doubt ≡ None →
    AreTold (after_events (syncing w n orders) w).told orders (outcomes (host_at w n) orders)
