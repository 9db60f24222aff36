-- The orders of a mix, and which of them wait for an answer.
use Rattle.std.specs.Prelude.{◌≡◌, ◌≢◌, ℕ, false, List, [], ◌∷◌, Option, Some, None, nat_lt, if◌then◌else◌}
use Rattle.iso_order.specs.Order.{Instruction}
use Rattle.iso_order.specs.declared.key.TxKey.{TxKey}
use Rattle.iso_waits.specs.declared.due.Due.{Due}
use Rattle.iso_waits.specs.Waits.{AreInTime, moment_after, put_off, times, without}
use Rattle.iso_mix.specs.declared.asked.Asked.{Asked}
use Rattle.iso_mix.specs.declared.asked.Side.{Side}
use Rattle.iso_mix.specs.declared.hearing.Hearing.{Hearing}
use Rattle.iso_mix.specs.declared.hearing.Hearing.TheVariants.{First, Known, Differs, Foreign}
use Rattle.iso_mix.specs.declared.sides.Sides.{Sides}
use Rattle.iso_mix.specs.Asked.{asked_at, is_open_at, order_in, sides_answered}

-- each order lies under its own trace number, and no other does
abbrev pub HaveOwnNumbers : List Side → Type 0
HaveOwnNumbers sides = (stan : ℕ) (a : Asked) → asked_at sides stan ≡ Some a
    → a.order.key.stan ≡ stan

-- each order without an answer waits once, and nothing else does
abbrev pub AreAwaited : List Due → List Side → Type 0
AreAwaited waiting sides =
    (stan : ℕ) → times stan waiting ≡ (if is_open_at sides stan then 1 else 0)

-- the orders, who waits for an answer, and by when the last of these is due
pub record IsBook (sides : List Side) (waiting : List Due) (last : ℕ) : Type 0 where
  pub own : HaveOwnNumbers sides
  pub awaited : AreAwaited waiting sides
  pub in_time : AreInTime last waiting

-- the orders, two at most for each place
abbrev pub sides_in : Sides → List Side
sides_in b = b.made.items

-- the trace numbers that wait for an answer, and until when
abbrev pub waiting_in : Sides → List Due
waiting_in b = b.waiting.items

-- what holds of it whatever is called
abbrev pub IsKept : Sides → Type 0
IsKept b = IsBook (sides_in b) (waiting_in b) (moment_after b.clock b.patience)

-- no trace number has an order that waits for its answer
abbrev pub AreAllAnswered : List Side → Type 0
AreAllAnswered sides = (stan : ℕ) → is_open_at sides stan ≡ false

-- ---- what an answer changes

-- the first answer is kept, and any other changes nothing
abbrev pub sides_heard : Hearing → ℕ → ℕ → List Side → List Side
sides_heard First stan code sides = sides_answered stan code sides
sides_heard Known stan code sides = sides
sides_heard Differs stan code sides = sides
sides_heard Foreign stan code sides = sides

-- the order waits no longer
abbrev pub waiting_heard : Hearing → ℕ → List Due → List Due
waiting_heard First stan waiting = without stan waiting
waiting_heard Known stan waiting = waiting
waiting_heard Differs stan waiting = waiting
waiting_heard Foreign stan waiting = waiting

-- no order has that key
abbrev pub HasNoKey : List Side → TxKey → Type 0
HasNoKey sides key = (stan : ℕ) (a : Asked) → asked_at sides stan ≡ Some a → a.order.key ≢ key

-- ---- what is asked again

-- the order that waits first, if it is due
abbrev pub due_order : ℕ → List Due → List Side → Option Instruction
due_order now [] sides = None
due_order now (d ∷ ds) sides = if nat_lt now d.at then None else order_in (asked_at sides d.stan)

-- it waits again, behind all others
abbrev pub asked_again : ℕ → ℕ → List Due → List Due
asked_again now at [] = []
asked_again now at (d ∷ ds) = if nat_lt now d.at then d ∷ ds else put_off at (d ∷ ds)
