-- What holds of both ends, each of which may crash.
use Rattle.std.specs.Prelude.{◌≡◌, ℕ, List, [], ◌++◌, slice_get, Some}
use Rattle.std.specs.List.{AllByRecursion}
use Rattle.iso_order.specs.Pan.{AccountNumber}
use Rattle.iso_order.specs.Order.{Instruction}
use Rattle.iso_issuer.specs.declared.account.Account.{Account}
use Rattle.iso_durable.specs.Durable.{entered}
use Rattle.iso_acquirer.specs.declared.event.Event.{Event as Passing}
use Rattle.iso_acquirer.specs.declared.event.Event.TheVariants.{Begin, Timeout, Answer}
use Rattle.iso_acquirer.specs.declared.event.Given.{Given}
use Rattle.iso_acquirer.specs.Acquirer.{Party, order_at, debit_of}
use Rattle.iso_acquirer.specs.World.{World as BothEnds}
use Rattle.iso_acquirer.specs.Agreement.{BothAgree, StaysClosed, BooksAgree}
use Rattle.iso_acquirer.specs.Runs.{IsAcquirer, IsRun}
use Rattle.iso_acquirer.specs.Runs.{unused as unused_both}
use Rattle.iso_outages.specs.World.{World as Ends, Event as Outage, Passes}
use Rattle.iso_outages.specs.World.{run as run_on, unused as unused_ends}
use Rattle.iso_outages.specs.Laws.{IsAmong}
use Rattle.iso_outages.specs.Laws.{CanHappen as CanGo, ends_with as ends_at}
use Rattle.iso_restarts.specs.Diary.{MayLeave, party_after, on_disk, in_memory, unsent, begins, times_out, hears, keeps}
use Rattle.iso_restarts.specs.declared.note.Note.{Note}
use Rattle.iso_restarts.specs.Replayed.{CanBeWritten}
use Rattle.iso_restarts.specs.World.{World, Event, Goes, Keeps, Restarts, ends_with, happens, run, unused}

-- what can happen: either end may crash at any moment
abbrev pub CanHappen : Event → Type 0
CanHappen (Goes e) = CanGo e
CanHappen Keeps = Unit {0}
CanHappen (Restarts kept) = Unit {0}

-- it holds after every run from unused ends on, with crashes of either end at any moments
abbrev pub AfterEachRun : (ℕ → List Account → ℕ → World → Type 0) → Type 0
AfterEachRun Holds =
    (id : ℕ) (accounts : List Account) (limit : ℕ) (events : List Event) →
    IsAcquirer id → AllByRecursion CanHappen events →
    Holds id accounts limit (run events (unused id accounts limit))

-- ---- each run with crashes of the acquirer is a run without

-- the order is sent there too
abbrev pub IsSentIn : List Instruction → Instruction → Type 0
IsSentIn sent o = (place : ℕ) × (slice_get sent place ≡ Some o)

-- Events without a crash of the acquirer lead to the acquirer that is on the disk, to the same host, and to the same
-- answers. Each order that was sent is sent there. So an order that a crash took is lost on its way there, and an
-- answer that it took is never heard.
pub record IsRunWithout (old : Ends) (new : World) : Type 0 where
  pub events : List Outage
  pub can : AllByRecursion CanGo events
  pub sent : List Instruction
  pub ran : run_on events old ≡ ends_with new (on_disk new.acquirer) sent
  pub among : AllByRecursion (IsSentIn sent) new.sent

-- each run with crashes of the acquirer is a run without; those of the host are in both
abbrev pub CrashesOnlyLose : Type 0
CrashesOnlyLose =
    AfterEachRun (λ id accounts limit w. IsRunWithout (unused_ends id accounts limit) w)

-- Events without any crash, none of them refused, lead to the acquirer that is on its disk, and to a journal of the
-- orders on the host's disk. Each order that was sent is sent there, and each answer that was given is given there, but
-- for those of 96, which leave the acquirer as it is.
pub record IsRunWithoutAny (old : BothEnds) (new : World) : Type 0 where
  pub events : List Passing
  pub sent : List Instruction
  pub given : List Given
  pub ran : IsRun old events 0
      (ends_at (ends_with new (on_disk new.acquirer) sent) new.host.synced given)
  pub sent_among : AllByRecursion (IsSentIn sent) new.sent
  pub given_among : AllByRecursion (IsAmong given) new.given

-- each run with crashes of either end is a run without any
abbrev pub CrashesOfBothOnlyLose : Type 0
CrashesOfBothOnlyLose =
    AfterEachRun (λ id accounts limit w. IsRunWithoutAny (unused_both id accounts limit) w)

-- ---- so both ends agree

-- both ends as they agree: this acquirer, and a journal of these orders
abbrev pub both_with : World → Party → List Instruction → BothEnds
both_with w party orders = record {
  acquirer = party;
  sent = w.sent;
  given = w.given;
  issuer = record { accounts = w.host.accounts; limit = w.host.limit; orders = orders };
}

-- with what is on both disks, and with what either end has in memory too
pub record HoldsOfBoth (Holds : BothEnds → Type 0) (w : World) : Type 0 where
  pub disks : Holds (both_with w (on_disk w.acquirer) w.host.synced)
  pub host_in_memory : Holds (both_with w (on_disk w.acquirer) (entered w.host))
  pub acquirer_in_memory : Holds (both_with w (in_memory w.acquirer) w.host.synced)
  pub memories : Holds (both_with w (in_memory w.acquirer) (entered w.host))

-- both ends agree on each transaction
abbrev pub AgreeOverCrashes : Type 0
AgreeOverCrashes = AfterEachRun (λ id accounts limit w. HoldsOfBoth BothAgree w)

-- what is closed on the acquirer's disk stays, however the run goes on, on the disk and in memory
abbrev pub StayClosedOverCrashes : Type 0
StayClosedOverCrashes =
    AfterEachRun (λ id accounts limit w. (more : List Event) → AllByRecursion CanHappen more →
    StaysClosed (both_with w (on_disk w.acquirer) w.host.synced)
    (both_with (run more w) (on_disk (run more w).acquirer) (run more w).host.synced)
    × StaysClosed (both_with w (on_disk w.acquirer) w.host.synced)
    (both_with (run more w) (in_memory (run more w).acquirer) (run more w).host.synced))

-- once all is closed, the books agree
abbrev pub BalanceOverCrashes : Type 0
BalanceOverCrashes = AfterEachRun (λ id accounts limit w. HoldsOfBoth BooksAgree w)

-- ---- no trace number is used for two orders

-- each order that was sent is the one that the notes on the disk have under its trace number
abbrev pub SentAsKept : Type 0
SentAsKept =
    AfterEachRun (λ id accounts limit w.
    AllByRecursion (λ o. order_at (on_disk w.acquirer).slots o.key.stan ≡ Some o) w.sent)

-- ---- a start goes on with whatever a crash leaves

-- an acquirer can have written it, so `DurableAcquirer::start` doesn't call it damaged
abbrev pub StartsGoOn : Type 0
StartsGoOn =
    AfterEachRun (λ id accounts limit w. (notes : List Note) → MayLeave w.acquirer notes →
    CanBeWritten (party_after w.acquirer.id []) notes)

-- ---- and the calls of the acquirer are such events

-- what each of them makes of the acquirer, what is sent once its notes are kept, and what it starts with after a crash
pub record CallsAreEvents : Type 0 where
  pub begin :
      (w : World) (pan : AccountNumber) (amount : ℕ) (currency : List ℕ) (sent : ℕ) →
      (happens w (Goes (Passes (Begin pan amount currency sent)))).acquirer
      ≡ begins w.acquirer (debit_of (in_memory w.acquirer) pan amount currency sent)
  pub timed_out :
      (w : World) (stan : ℕ) →
      (happens w (Goes (Passes (Timeout stan)))).acquirer ≡ times_out w.acquirer stan
  pub told :
      (w : World) (place : ℕ) (g : Given) → slice_get w.given place ≡ Some g →
      (happens w (Goes (Passes (Answer place)))).acquirer ≡ hears w.acquirer g.key g.answer.code
  pub keep : (w : World) → (happens w Keeps).acquirer ≡ keeps w.acquirer
  pub sent : (w : World) → (happens w Keeps).sent ≡ w.sent ++ unsent w.acquirer
  pub start :
      (w : World) (notes : List Note) → MayLeave w.acquirer notes →
      (kept : ℕ) × ((happens w (Restarts kept)).acquirer
      ≡ record { id = w.acquirer.id; synced = notes; pending = [] })
