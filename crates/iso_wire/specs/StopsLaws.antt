-- What holds of every place where bytes stop.
use Rattle.std.specs.Prelude.{◌≡◌, ◌≢◌, ◌↔◌, ◌⊎◌, ℕ, List, ◌++◌}
use Rattle.iso_table.specs.Layout.{Layout, AreGood}
use Rattle.iso_wire.specs.declared.fault.UnpackCause.{UnpackCause}
use Rattle.iso_wire.specs.declared.fault.UnpackCause.TheVariants.{Short}
use Rattle.iso_wire.specs.Contents.{Contents}
use Rattle.iso_wire.specs.Reading.{halt, message_at}
use Rattle.iso_wire.specs.Spelling.{AreBytes, BeginsWith}
use Rattle.iso_wire.specs.Stops.{Stops}

-- reading gives a fault exactly where the bytes stop there, at that element, for that cause
abbrev pub StopsAsRead : Type 0
StopsAsRead =
    (t : Layout) (b : List ℕ) (at element : ℕ) (cause : UnpackCause) → AreGood t.rows → AreBytes b
    → (message_at t b ≡ halt element at cause) ↔ Stops t b at element cause

-- the bytes begin with a spelling, or they stop somewhere,
abbrev pub SpellsOrStops : Type 0
SpellsOrStops =
    (t : Layout) (b : List ℕ) → AreGood t.rows → AreBytes b
    → ((m : Contents) × (n : ℕ) × BeginsWith t m n b)
    ⊎ ((at : ℕ) × (element : ℕ) × (cause : UnpackCause) × Stops t b at element cause)

-- and not both
abbrev pub NeverBoth : Type 0
NeverBoth =
    (t : Layout) (b : List ℕ) (m : Contents) (n at element : ℕ) (cause : UnpackCause)
    → AreGood t.rows → AreBytes b
    → BeginsWith t m n b → Stops t b at element cause → ⊥

-- they stop at one place, at one element, for one cause
abbrev pub StopsOnce : Type 0
StopsOnce =
    (t : Layout) (b : List ℕ) (at element other_at other_element : ℕ)
    (cause other_cause : UnpackCause) → AreGood t.rows → AreBytes b
    → Stops t b at element cause → Stops t b other_at other_element other_cause
    → (at ≡ other_at) × (element ≡ other_element) × (cause ≡ other_cause)

-- they stop there for that cause whatever bytes follow, unless they are too short
abbrev pub StopsStay : Type 0
StopsStay =
    (t : Layout) (b more : List ℕ) (at element : ℕ) (cause : UnpackCause) → AreGood t.rows
    → AreBytes b → AreBytes more → cause ≢ Short
    → Stops t b at element cause → Stops t (b ++ more) at element cause
