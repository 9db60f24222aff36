-- A log as a host in a world of hosts over one log, and its calls as events of that host among those of others.
use Rattle.std.specs.Prelude.{◌≡◌, ◌≤◌, ℕ, Bool, true, false, nat_le, map, length}
use Rattle.std.specs.Prelude.{List, [], ◌∷◌, ◌++◌, None}
use Rattle.std.specs.List.{AllByRecursion}
use Rattle.iso_order.specs.Order.{Instruction}
use Rattle.iso_issuer.specs.declared.account.Account.{Account}
use Rattle.iso_issuer.specs.Journal.{is_entered}
use Rattle.iso_issuer.specs.Books.{journal}
use Rattle.iso_issuer.specs.Decision.{answer_for}
use Rattle.iso_durable.specs.Durable.{books_of, entered}
use Rattle.iso_durable.specs.World.{Told, IsAnswered, IsStart}
use Rattle.iso_record.specs.declared.row.Row.{Row}
use Rattle.iso_hosts.specs.World.{World, Batch, host_at, fresh, orders_in, after_event, after_events, log_begins}
use Rattle.iso_hosts.specs.World.{batch_of as sent_batch, Event, Receives, Sends, Reads, Restarts}
use Rattle.iso_hosts.specs.Laws.{is_of}
use Rattle.iso_shared.specs.declared.log.SharedLog.{SharedLog}
use Rattle.iso_shared.specs.declared.standby.Standby.{Standby}
use Rattle.iso_shared.specs.Batch.{is_filed}
use Rattle.iso_shared.specs.Kept.{writer_number, orders_of, batch_of, batches_of}
use Rattle.iso_shared.specs.Log.{made, made_bytes, is_full, IsReady}
use Rattle.iso_shared.specs.Steps.{Adds, Flushes}
use Rattle.iso_shared.specs.Standby.{Takes}

-- ---- a log, and a host of the world

-- the world keeps the batches that a store is known to keep
abbrev pub Knows : World → List (List ℕ) → Type 0
Knows w kept = (more : List Batch) × (w.kept ≡ batches_of kept ++ more)

-- the orders of rows, each with the answer that was made for it
abbrev pub told_of : List Row → List Told
told_of rows = map (λ r. record { order = r.order; answer = r.answer }) rows

-- the number of a log's host
abbrev pub number_of : {S P : Type 0} → SharedLog S P → ℕ
number_of log = writer_number log.writer

-- the host of this number has seen what the log knows, is in doubt of nothing, and has decided the orders of the batch
-- that is being made, and their answers wait
pub record IsHost {S P : Type 0} (kept : S → List (List ℕ)) (w : World) (n : ℕ)
    (log : SharedLog S P) : Type 0 where
  pub knows : Knows w (kept log.store)
  pub ready : IsReady kept log
  pub number : number_of log ≡ n
  pub seen : (w.hosts n).seen ≡ log.seen
  pub certain : (w.hosts n).in_doubt ≡ None
  pub orders : (w.hosts n).behind.orders ≡ orders_of log.rows.items
  pub answers : (w.hosts n).behind.answers ≡ told_of log.rows.items

-- ---- what others do

-- none of the events is one of this host: others receive, send, read and restart, and what was ever sent arrives
abbrev pub AreOfOthers : ℕ → List Event → Type 0
AreOfOthers n events = AllByRecursion (λ e. is_of n e ≡ false) events

-- what others do leaves it the log of its host
abbrev pub OthersLeaveLogs : {S P : Type 0} → (S → List (List ℕ)) → SharedLog S P → Type 0
OthersLeaveLogs kept log =
    (w : World) (n : ℕ) (events : List Event) → IsHost kept w n log → AreOfOthers n events →
    IsHost kept (after_events events w) n log

-- the batch that is being made is the one that the host would send: whatever a call sends, also one that fails, is that of
-- the event that the host sends
abbrev pub SendsItsBatch : {S P : Type 0} → (S → List (List ℕ)) → SharedLog S P → Type 0
SendsItsBatch kept log =
    (w : World) (n : ℕ) → IsHost kept w n log → is_filed (made log) ≡ true →
    batch_of (made_bytes log) ≡ sent_batch n (w.hosts n)

-- ---- an order is added

-- the order is new to the host, there is room, and its books give it this answer
pub record IsDecided (w : World) (n : ℕ) (row : Row) : Type 0 where
  pub new : is_entered (entered (host_at w n)) row.order.key ≡ false
  pub room : nat_le w.limit (length (entered (host_at w n))) ≡ false
  pub answer_is :
      row.answer ≡ answer_for w.accounts (journal (books_of (host_at w n))) row.order

-- the events up to where the host reads: it sends a full batch, which arrives among what others do
abbrev pub before_adding : ℕ → Bool → List Event → List Event
before_adding n true others = Sends n ∷ others
before_adding n false others = others

-- and from there on: it reads that batch, and receives the order
abbrev pub adding : ℕ → Bool → Instruction → List Event
adding n true o = Reads n ∷ Receives n o ∷ []
adding n false o = Receives n o ∷ []

-- what is told where a batch of these rows was sent
abbrev pub told_by : Bool → List Row → List Told
told_by true rows = told_of rows
told_by false rows = []

-- an append is such a run: wherever the world keeps what the store is known to keep, before the host reads, the log is that
-- of its host again, and the answers of the full batch were told
abbrev pub AppendsAreEvents : {S P : Type 0} → (kept sent : S → List (List ℕ)) → SharedLog S P
    → SharedLog S P → Type 0
AppendsAreEvents kept sent old new =
    (w : World) (n : ℕ) (row : Row) (others : List Event) →
    IsHost kept w n old → Adds kept sent old new row → IsDecided w n row → AreOfOthers n others →
    let v = after_events (before_adding n (is_full old) others) w in
    let u = after_events (adding n (is_full old) row.order) v in
    Knows v (kept new.store) →
    IsHost kept u n new × (u.told ≡ v.told ++ told_by (is_full old) old.rows.items)

-- ---- a sync

-- the events up to where the host reads: it sends its batch, if it has an order
abbrev pub before_flushing : ℕ → List Row → List Event → List Event
before_flushing n [] others = others
before_flushing n (r ∷ rs) others = Sends n ∷ others

-- and it reads that batch
abbrev pub flushing : ℕ → List Row → List Event
flushing n [] = []
flushing n (r ∷ rs) = Reads n ∷ []

-- a sync is such a run, and tells the answers that waited, and nothing else
abbrev pub SyncsAreEvents : {S P : Type 0} → (kept sent : S → List (List ℕ)) → SharedLog S P
    → SharedLog S P → Type 0
SyncsAreEvents kept sent old new =
    (w : World) (n : ℕ) (others : List Event) →
    IsHost kept w n old → Flushes kept sent old new → AreOfOthers n others →
    let v = after_events (before_flushing n old.rows.items others) w in
    let u = after_events (flushing n old.rows.items) v in
    Knows v (kept new.store) →
    IsHost kept u n new × (u.told ≡ v.told ++ told_of old.rows.items)

-- in a world that began with orders that one host could start on, each answer that a sync hands out is the one that the
-- log then gives to its order
abbrev pub SyncsTellTheLog : {S P : Type 0} → (kept sent : S → List (List ℕ)) → SharedLog S P
    → SharedLog S P → Type 0
SyncsTellTheLog kept sent old new =
    (accounts : List Account) (limit : ℕ) (begun : List Batch) (before others : List Event) (n : ℕ)
    →
    IsStart limit (orders_in begun) →
    let w = after_events before (log_begins accounts limit begun) in
    IsHost kept w n old → Flushes kept sent old new → AreOfOthers n others →
    let v = after_events (before_flushing n old.rows.items others) w in
    let u = after_events (flushing n old.rows.items) v in
    Knows v (kept new.store) →
    AllByRecursion (IsAnswered accounts (orders_in u.kept)) (told_of old.rows.items)

-- ---- a start, and reading on

-- the host of this number has seen what was read, and decided nothing
pub record IsReader {S : Type 0} (kept : S → List (List ℕ)) (w : World) (n : ℕ)
    (standby : Standby S) : Type 0 where
  pub knows : Knows w (kept standby.store)
  pub known : standby.seen ≤ length (kept standby.store)
  pub host : w.hosts n ≡ fresh standby.seen

-- a start after a crash, on what was read, is the event of that crash
abbrev pub StartsAreRestarts : {S : Type 0} → (S → List (List ℕ)) → Standby S → Type 0
StartsAreRestarts kept standby =
    (w : World) (n : ℕ) → Knows w (kept standby.store) →
    standby.seen ≤ length (kept standby.store) →
    IsReader kept (after_event w (Restarts n standby.seen)) n standby

-- reading on is the event that the host reads, and tells nothing
abbrev pub ReadingIsAnEvent : {S : Type 0} → (S → List (List ℕ)) → Standby S → Standby S → Type 0
ReadingIsAnEvent kept old new =
    (w : World) (n : ℕ) → IsReader kept w n old → Takes kept old new → Knows w (kept new.store) →
    IsReader kept (after_event w (Reads n)) n new
    × ((after_event w (Reads n)).told ≡ w.told)

-- the log of a host that starts on what was read is that of its host
abbrev pub ReadersBecomeHosts : {S P : Type 0} → (S → List (List ℕ)) → Standby S → SharedLog S P
    → Type 0
ReadersBecomeHosts kept standby log =
    (w : World) (n : ℕ) → IsReader kept w n standby → number_of log ≡ n →
    log.store ≡ standby.store → log.seen ≡ standby.seen → log.synced ≡ standby.seen →
    log.rows.items ≡ [] →
    IsHost kept w n log
