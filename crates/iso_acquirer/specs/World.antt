-- Both ends, and what may happen to them.
use Rattle.std.specs.Prelude.{◌≡◌, ◌≢◌, ◌<◌, ℕ, List, [], ◌∷◌, ◌++◌, ◌+◌, length, Option, Some, None, slice_get, Ok, Err}
use Rattle.iso_order.specs.Order.{Instruction}
use Rattle.iso_issuer.specs.Decision.{answer_for}
use Rattle.iso_issuer.specs.Books.{Books, journal, books_with, IsFullFor, IsAnswerFor}
use Rattle.iso_acquirer.specs.declared.event.Event.{Event}
use Rattle.iso_acquirer.specs.declared.event.Event.TheVariants.{Begin, Timeout, Deliver, Answer, Other}
use Rattle.iso_acquirer.specs.declared.event.Given.{Given}
use Rattle.iso_acquirer.specs.declared.fault.AcqFault.TheVariants as acquirer
use Rattle.iso_acquirer.specs.declared.fault.StepFault.{StepFault}
use Rattle.iso_acquirer.specs.declared.fault.StepFault.TheVariants as fault
use Rattle.iso_acquirer.specs.declared.slot.Slot.{Slot}
use Rattle.iso_acquirer.specs.Acquirer.{Party, slots_with, debit_of, IsFair, timeout, timeout_fault, slots_after_answer}

-- the acquirer and the issuer, with all that was ever sent and given
pub record World : Type 0 where
  pub acquirer : Party
  pub sent : List Instruction
  pub given : List Given
  pub issuer : Books

-- ---- what an event makes of them

-- the acquirer sends an order, and keeps these slots
abbrev pub with_sent : World → Instruction × List Slot → World
with_sent w (o, slots) = record {
  acquirer = record { id = w.acquirer.id; slots = slots };
  sent = w.sent ++ o ∷ [];
  given = w.given;
  issuer = w.issuer;
}

-- the issuer gets a sent order, and its answer is given
abbrev pub with_delivery : World → Instruction → World
with_delivery w o = record {
  acquirer = w.acquirer;
  sent = w.sent;
  given = w.given
      ++ record { key = o.key; answer = answer_for w.issuer.accounts (journal w.issuer) o } ∷ [];
  issuer = books_with w.issuer o;
}

-- the acquirer gets a given answer
abbrev pub with_answer : World → Given → World
with_answer w g = record {
  acquirer = record {
    id = w.acquirer.id;
    slots = slots_after_answer w.acquirer.slots g.key g.answer.code;
  };
  sent = w.sent;
  given = w.given;
  issuer = w.issuer;
}

-- the issuer gets an order of another acquirer
abbrev pub with_other_order : World → Instruction → World
with_other_order w o =
    record { acquirer = w.acquirer; sent = w.sent; given = w.given; issuer = books_with w.issuer o }

-- ---- an event that is made

-- the acquirer had a trace number left, and sends a new debit
pub record IsBegun (old : World) (o : Instruction) (new : World) : Type 0 where
  pub left : length old.acquirer.slots < 999999
  pub after : new ≡ with_sent old (o, slots_with old.acquirer.slots o)

-- the acquirer sends what it sends where no answer came in time
pub record IsAsked (old : World) (stan : ℕ) (new : World) : Type 0 where
  pub asked : Instruction × List Slot
  pub found : timeout old.acquirer.slots stan ≡ Ok asked
  pub after : new ≡ with_sent old asked

-- an order was sent at that place, and the issuer has its key or room for it
pub record IsDelivered (old : World) (place : ℕ) (new : World) : Type 0 where
  pub order : Instruction
  pub found : slice_get old.sent place ≡ Some order
  pub room : IsFullFor old.issuer order.key → ⊥
  pub after : new ≡ with_delivery old order

-- an answer was given at that place
pub record IsAnswerGiven (old : World) (place : ℕ) (new : World) : Type 0 where
  pub answer : Given
  pub found : slice_get old.given place ≡ Some answer
  pub after : new ≡ with_answer old answer

-- the order is of another acquirer, and the issuer has its key or room for it
pub record IsOther (old : World) (o : Instruction) (new : World) : Type 0 where
  pub others_own : o.key.acquirer ≢ old.acquirer.id
  pub room : IsFullFor old.issuer o.key → ⊥
  pub after : new ≡ with_other_order old o

-- an event happens, and this is the world after it
abbrev pub IsMade : World → Event → World → Type 0
IsMade old (Begin pan amount currency sent) new =
    IsBegun old (debit_of old.acquirer pan amount currency sent) new
IsMade old (Timeout stan) new = IsAsked old stan new
IsMade old (Deliver place) new = IsDelivered old place new
IsMade old (Answer place) new = IsAnswerGiven old place new
IsMade old (Other o) new = IsOther old o new

-- ---- why one isn't made

-- all trace numbers are used; or one is left, and memory ran out
abbrev pub IsNotBegun : World → StepFault → Type 0
IsNotBegun old (fault.Acquirer acquirer.NoMoreTrace) = length old.acquirer.slots ≡ 999999
IsNotBegun old (fault.Acquirer acquirer.Memory) = length old.acquirer.slots < 999999
IsNotBegun old (fault.Acquirer acquirer.NoSuch) = ⊥
IsNotBegun old (fault.Acquirer acquirer.Closed) = ⊥
IsNotBegun old fault.Memory = length old.acquirer.slots < 999999
IsNotBegun old fault.NoSuch = ⊥
IsNotBegun old fault.OwnKey = ⊥
IsNotBegun old (fault.Issuer e) = ⊥

-- the acquirer refuses; or it has an order to send, and memory ran out
abbrev pub IsNotAsked : World → ℕ → StepFault → Type 0
IsNotAsked old stan (fault.Acquirer e) = timeout old.acquirer.slots stan ≡ Err e
IsNotAsked old stan fault.Memory = timeout_fault old.acquirer.slots stan ≡ None
IsNotAsked old stan fault.NoSuch = ⊥
IsNotAsked old stan fault.OwnKey = ⊥
IsNotAsked old stan (fault.Issuer e) = ⊥

-- an order was sent at that place, and the issuer has its key or room for it
abbrev pub IsDue : World → ℕ → Type 0
IsDue old place = (o : Instruction) × (slice_get old.sent place ≡ Some o)
    × (IsFullFor old.issuer o.key → ⊥)

-- no order was sent at that place; the issuer refuses it; or it is due, and memory ran out
abbrev pub IsNotDelivered : World → ℕ → StepFault → Type 0
IsNotDelivered old place fault.NoSuch = slice_get old.sent place ≡ None
IsNotDelivered old place (fault.Issuer e) = (o : Instruction) × (slice_get old.sent place ≡ Some o)
    × IsAnswerFor old.issuer o (Err e)
IsNotDelivered old place fault.Memory = IsDue old place
IsNotDelivered old place fault.OwnKey = ⊥
IsNotDelivered old place (fault.Acquirer e) = ⊥

-- no answer was given at that place
abbrev pub IsAnswerNotGiven : World → ℕ → StepFault → Type 0
IsAnswerNotGiven old place fault.NoSuch = slice_get old.given place ≡ None
IsAnswerNotGiven old place fault.Memory = ⊥
IsAnswerNotGiven old place fault.OwnKey = ⊥
IsAnswerNotGiven old place (fault.Acquirer e) = ⊥
IsAnswerNotGiven old place (fault.Issuer e) = ⊥

-- the order has this acquirer's number, or the issuer refuses it
abbrev pub IsNotOther : World → Instruction → StepFault → Type 0
IsNotOther old o fault.OwnKey = o.key.acquirer ≡ old.acquirer.id
IsNotOther old o (fault.Issuer e) = (o.key.acquirer ≢ old.acquirer.id)
    × IsAnswerFor old.issuer o (Err e)
IsNotOther old o fault.Memory = ⊥
IsNotOther old o fault.NoSuch = ⊥
IsNotOther old o (fault.Acquirer e) = ⊥

-- why an event doesn't happen
abbrev pub IsNotMade : World → Event → StepFault → Type 0
IsNotMade old (Begin pan amount currency sent) e = IsNotBegun old e
IsNotMade old (Timeout stan) e = IsNotAsked old stan e
IsNotMade old (Deliver place) e = IsNotDelivered old place e
IsNotMade old (Answer place) e = IsAnswerNotGiven old place e
IsNotMade old (Other o) e = IsNotOther old o e

-- ---- runs

-- what the caller gives: a debit that can be begun
abbrev pub IsFairEvent : Event → Type 0
IsFairEvent (Begin pan amount currency sent) = IsFair amount currency sent
IsFairEvent (Timeout stan) = Unit {0}
IsFairEvent (Deliver place) = Unit {0}
IsFairEvent (Answer place) = Unit {0}
IsFairEvent (Other o) = Unit {0}

-- an event is made, or refused and nothing changes
abbrev pub IsStep : World → Event → World → Option StepFault → Type 0
IsStep old event new None = IsMade old event new
IsStep old event new (Some e) = IsNotMade old event e × (new ≡ old)

-- one for an event that was refused, else none
abbrev pub refusal_count : Option StepFault → ℕ
refusal_count None = 0
refusal_count (Some e) = 1

-- the steps in order, and the number of refusals
abbrev pub IsRan : World → List Event → ℕ → World → Type 0
IsRan old [] n new = (n ≡ 0) × (new ≡ old)
IsRan old (e ∷ es) n new = (mid : World) × (f : Option StepFault) × (m : ℕ) × IsStep old e mid f
    × IsRan mid es m new × (n ≡ refusal_count f + m)
