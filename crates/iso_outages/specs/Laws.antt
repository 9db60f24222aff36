-- What holds of both ends over a host that crashes.
use Rattle.std.specs.Prelude.{◌≡◌, ◌⊎◌, ℕ, List, [], ◌∷◌, ◌++◌, slice_get, Some}
use Rattle.std.specs.List.{AllByRecursion}
use Rattle.iso_order.specs.Codes.{system_malfunction}
use Rattle.iso_order.specs.Order.{Instruction}
use Rattle.iso_order.specs.Outcome.{Outcome}
use Rattle.iso_issuer.specs.declared.account.Account.{Account}
use Rattle.iso_durable.specs.Durable.{entered, syncs, come_all, outcomes}
use Rattle.iso_acquirer.specs.declared.event.Event.{Event as Passing}
use Rattle.iso_acquirer.specs.declared.event.Event.TheVariants.{Deliver}
use Rattle.iso_acquirer.specs.declared.event.Given.{Given}
use Rattle.iso_acquirer.specs.World.{World as BothEnds}
use Rattle.iso_acquirer.specs.Agreement.{BothAgree, StaysClosed, BooksAgree}
use Rattle.iso_acquirer.specs.Runs.{IsAcquirer, IsRun}
use Rattle.iso_acquirer.specs.Runs.{unused as unused_ends, CanHappen as CanPass}
use Rattle.iso_outages.specs.World.{World, Event, Passes, Syncs, Crashes, run, unused}

-- what can happen: the host may crash at any moment
abbrev pub CanHappen : Event → Type 0
CanHappen (Passes e) = CanPass e
CanHappen Syncs = Unit {0}
CanHappen (Crashes kept) = Unit {0}

-- ---- each run with crashes is a run without

-- ends without crashes: the acquirer, what it sent, a journal of these orders, and these answers
abbrev pub ends_with : World → List Instruction → List Given → BothEnds
ends_with w orders given = record {
  acquirer = w.acquirer;
  sent = w.sent;
  given = given;
  issuer = record { accounts = w.host.accounts; limit = w.host.limit; orders = orders };
}

-- the answer is among these; or it is a system malfunction, which leaves the acquirer as it is
abbrev pub IsAmong : List Given → Given → Type 0
IsAmong all g = ((place : ℕ) × (slice_get all place ≡ Some g))
    ⊎ (g.answer.code ≡ system_malfunction)

-- Events without a crash, none of them refused, lead to the same acquirer, which sent the same, and
-- to a journal of the orders on the disk. Each answer that was given is given there. So an order
-- that a crash took was never delivered there, and an answer that it took is never heard.
pub record IsRunWithout (old : BothEnds) (new : World) : Type 0 where
  pub events : List Passing
  pub given : List Given
  pub ran : IsRun old events 0 (ends_with new new.host.synced given)
  pub among : AllByRecursion (IsAmong given) new.given

-- each run with crashes is a run without
abbrev pub CrashesOnlyLose : Type 0
CrashesOnlyLose =
    (id : ℕ) (accounts : List Account) (limit : ℕ) (events : List Event) →
    IsAcquirer id → AllByRecursion CanHappen events →
    IsRunWithout (unused_ends id accounts limit) (run events (unused id accounts limit))

-- ---- so both ends agree

-- with the orders on the disk, which the next start has at the least
abbrev pub on_disk : World → BothEnds
on_disk w = ends_with w w.host.synced w.given

-- with all orders that the host has, those too that wait for a sync
abbrev pub in_memory : World → BothEnds
in_memory w = ends_with w (entered w.host) w.given

-- it holds after every run from unused ends on, with crashes at any moments
abbrev pub AfterEachRun : (World → Type 0) → Type 0
AfterEachRun Holds =
    (id : ℕ) (accounts : List Account) (limit : ℕ) (events : List Event) →
    IsAcquirer id → AllByRecursion CanHappen events → Holds (run events (unused id accounts limit))

-- both ends agree on each transaction
abbrev pub AgreeOverCrashes : Type 0
AgreeOverCrashes = AfterEachRun (λ w. BothAgree (on_disk w) × BothAgree (in_memory w))

-- what is closed stays, however the run goes on
abbrev pub StayClosedOverCrashes : Type 0
StayClosedOverCrashes =
    AfterEachRun (λ w. (more : List Event) → AllByRecursion CanHappen more →
    StaysClosed (on_disk w) (on_disk (run more w)))

-- once all is closed, the books agree
abbrev pub BalanceOverCrashes : Type 0
BalanceOverCrashes = AfterEachRun (λ w. BooksAgree (on_disk w) × BooksAgree (in_memory w))

-- ---- and a call of the host is such a run

-- orders that come together, sent at these places, and the sync before their answers are given
abbrev pub together : List ℕ → List Event
together [] = Syncs ∷ []
together (place ∷ places) = Passes (Deliver place) ∷ together places

-- these orders were sent at these places
abbrev pub AreSentAt : List Instruction → List ℕ → List Instruction → Type 0
AreSentAt sent [] [] = Unit {0}
AreSentAt sent (place ∷ places) (o ∷ os) = (slice_get sent place ≡ Some o)
    × AreSentAt sent places os
AreSentAt sent [] (o ∷ os) = ⊥
AreSentAt sent (place ∷ places) [] = ⊥

-- each answer with the key of its order
abbrev pub under_keys : List Instruction → List Outcome → List Given
under_keys (o ∷ os) (a ∷ answers) = record { key = o.key; answer = a } ∷ under_keys os answers
under_keys [] answers = []
under_keys (o ∷ os) [] = []

-- it leaves the host that `answer_all` leaves, and its answers are given
abbrev pub CallsAreRuns : Type 0
CallsAreRuns =
    (w : World) (places : List ℕ) (orders : List Instruction) → AreSentAt w.sent places orders →
    ((run (together places) w).host ≡ syncs (come_all w.host orders))
    × ((run (together places) w).given
    ≡ w.given ++ (w.waiting ++ under_keys orders (outcomes w.host orders)))
