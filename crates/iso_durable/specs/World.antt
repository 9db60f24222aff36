-- A host over a whole run: what comes, when it syncs, and when it crashes.
use Rattle.std.specs.Prelude.{◌≡◌, ◌≤◌, ℕ, true, List, [], ◌∷◌, ◌++◌, length, if◌then◌else◌}
use Rattle.std.specs.List.{AllByRecursion}
use Rattle.iso_order.specs.Order.{Instruction}
use Rattle.iso_order.specs.Outcome.{Outcome}
use Rattle.iso_issuer.specs.declared.account.Account.{Account}
use Rattle.iso_issuer.specs.Journal.{is_entered, HasDistinctKeys}
use Rattle.iso_issuer.specs.Books.{is_full, journal}
use Rattle.iso_issuer.specs.Decision.{journal_of, answer_for}
use Rattle.iso_issuer.specs.Laws.{books_after}
use Rattle.iso_durable.specs.Durable.{Durable, books_of, entered, comes, come_all, syncs, crashes}

-- an order, and the answer that was made for it
pub record Told : Type 0 where
  pub order : Instruction
  pub answer : Outcome

-- the host, the answers that wait for the sync, and those that were given
pub record World : Type 0 where
  pub host : Durable
  pub waiting : List Told
  pub told : List Told

-- an order comes, all is synced and the answers are given, or it crashes and starts again from what the crash kept: what
-- is on the disk, and so many of the orders behind it
pub data Event : Type 0 where
  Comes : (order : Instruction) → Event
  Syncs : Event
  Crashes : (kept : ℕ) → Event

-- the answer waits. Where the journal is full, nothing is promised
abbrev pub waiting_after : World → Instruction → List Told
waiting_after w o =
    if is_full (books_of w.host) o.key then w.waiting
    else w.waiting
    ++ record { order = o; answer = answer_for w.host.accounts (journal (books_of w.host)) o } ∷ []

-- an event
abbrev pub happens : World → Event → World
happens w (Comes o) = record { host = comes w.host o; waiting = waiting_after w o; told = w.told }
happens w Syncs = record { host = syncs w.host; waiting = []; told = w.told ++ w.waiting }
happens w (Crashes n) = record { host = crashes n w.host; waiting = []; told = w.told }

-- events, one after another
abbrev pub run : List Event → World → World
run [] w = w
run (e ∷ es) w = run es (happens w e)

-- a host that starts on these orders
abbrev pub begins : List Account → ℕ → List Instruction → World
begins accounts limit orders = record {
  host = record { accounts = accounts; limit = limit; synced = orders; pending = [] };
  waiting = [];
  told = [];
}

-- its order is entered among these, and they give it that answer
pub record IsAnswered (accounts : List Account) (orders : List Instruction)
    (t : Told) : Type 0 where
  pub known : is_entered orders t.order.key ≡ true
  pub same : answer_for accounts (journal_of accounts orders) t.order ≡ t.answer

-- orders that a host can start on
pub record IsStart (limit : ℕ) (orders : List Instruction) : Type 0 where
  pub once : HasDistinctKeys orders
  pub few : length orders ≤ limit

-- each answer that was given is the one that the orders on the disk give to its order
abbrev pub ToldOutlive : Type 0
ToldOutlive =
    (accounts : List Account) (limit : ℕ) (orders : List Instruction) (events : List Event) →
    IsStart limit orders →
    AllByRecursion (IsAnswered accounts (run events (begins accounts limit orders)).host.synced)
    (run events (begins accounts limit orders)).told

-- no two orders have one key, and there are no more than the limit
abbrev pub EnteredOnce : Type 0
EnteredOnce =
    (accounts : List Account) (limit : ℕ) (orders : List Instruction) (events : List Event) →
    IsStart limit orders →
    IsStart limit (entered (run events (begins accounts limit orders)).host)

-- what is on the disk stays there, at its place
abbrev pub OnlyGrows : Type 0
OnlyGrows = (w : World) (events : List Event)
    → (more : List Instruction) × ((run events w).host.synced ≡ w.host.synced ++ more)

-- orders that come together, and the sync before their answers are given
abbrev pub together : List Instruction → List Event
together [] = Syncs ∷ []
together (o ∷ os) = Comes o ∷ together os

-- they leave what `answer_all` leaves
abbrev pub CallsAreRuns : Type 0
CallsAreRuns = (w : World) (orders : List Instruction)
    → (run (together orders) w).host ≡ syncs (come_all w.host orders)

-- orders that come one after another enter the books as orders do that are handled: the first of each key, up to the limit
abbrev pub OrdersEnter : Type 0
OrdersEnter = (d : Durable) (orders : List Instruction) → IsStart d.limit (entered d)
    → books_of (come_all d orders) ≡ books_after (books_of d) orders
