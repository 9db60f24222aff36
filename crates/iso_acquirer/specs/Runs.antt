-- What holds after every run of both ends.
use Rattle.std.specs.Prelude.{◌≡◌, ◌≤◌, ℕ, true, List, [], Some}
use Rattle.std.specs.List.{AllByRecursion}
use Rattle.iso_order.specs.Pan.{is_pan}
use Rattle.iso_order.specs.Order.{is_valid}
use Rattle.iso_issuer.specs.declared.account.Account.{Account}
use Rattle.iso_acquirer.specs.declared.event.Event.{Event}
use Rattle.iso_acquirer.specs.declared.event.Event.TheVariants.{Begin, Timeout, Deliver, Answer, Other}
use Rattle.iso_acquirer.specs.Acquirer.{IsFair, order_at}
use Rattle.iso_acquirer.specs.World.{World, IsRan}
use Rattle.iso_acquirer.specs.Agreement.{BothAgree, StaysClosed, BooksAgree}

-- both ends, unused
abbrev pub unused : ℕ → List Account → ℕ → World
unused id accounts limit = record {
  acquirer = record { id = id; slots = [] };
  sent = [];
  given = [];
  issuer = record { accounts = accounts; limit = limit; orders = [] };
}

-- an acquirer's number has eleven digits at most (element 32)
abbrev pub IsAcquirer : ℕ → Type 0
IsAcquirer id = id ≤ 99999999999

-- what can happen: a debit is begun that a message can carry, and an order of others is valid
abbrev pub CanHappen : Event → Type 0
CanHappen (Begin pan amount currency sent) = IsFair amount currency sent × (is_pan pan ≡ true)
CanHappen (Timeout stan) = Unit {0}
CanHappen (Deliver place) = Unit {0}
CanHappen (Answer place) = Unit {0}
CanHappen (Other o) = is_valid o ≡ true

-- events that can happen lead from one world to the other, with so many refusals
pub record IsRun (old : World) (events : List Event) (refused : ℕ) (new : World) : Type 0 where
  pub can : AllByRecursion CanHappen events
  pub ran : IsRan old events refused new

-- it holds after every run from unused ends on, whatever is refused in it
abbrev pub AfterEachRun : (World → Type 0) → Type 0
AfterEachRun Holds =
    (id : ℕ) (accounts : List Account) (limit : ℕ) (events : List Event) (n : ℕ) (w : World) →
    IsAcquirer id → IsRun (unused id accounts limit) events n w → Holds w

-- both ends agree on each transaction
abbrev pub RunsAgree : Type 0
RunsAgree = AfterEachRun BothAgree

-- what is closed stays, however the run goes on
abbrev pub RunsStayClosed : Type 0
RunsStayClosed =
    AfterEachRun
    (λ w. (more : List Event) (m : ℕ) (later : World) → IsRun w more m later → StaysClosed w later)

-- once all is closed, the books agree
abbrev pub RunsBalance : Type 0
RunsBalance = AfterEachRun BooksAgree

-- each order that was sent is the one that was made under its trace number
abbrev pub SentAsMade : World → Type 0
SentAsMade w = AllByRecursion (λ o. order_at w.acquirer.slots o.key.stan ≡ Some o) w.sent

-- so no trace number is used for two orders
abbrev pub RunsSendAsMade : Type 0
RunsSendAsMade = AfterEachRun SentAsMade
