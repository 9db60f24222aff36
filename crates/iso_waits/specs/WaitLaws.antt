-- Who waits, and in which order, once another waits, the first is put off, or one is left out.
use Rattle.std.specs.Prelude.{◌≡◌, ◌≤◌, ◌↔◌, ◌==◌, ℕ, ◌+◌, List, [], ◌∷◌, ◌++◌, Some, slice_get, if◌then◌else◌}
use Rattle.std.specs.List.{AllByRecursion}
use Rattle.iso_waits.specs.declared.due.Due.{Due}
use Rattle.iso_waits.specs.Waits.{due_by, due_later, put_off, without, times, IsInOrder, AreInTime}

-- how often each order waits
pub record WhoWaits : Type 0 where
  -- none waits exactly where no trace number does
  pub none : (waiting : List Due) → (waiting ≡ []) ↔ ((stan : ℕ) → times stan waiting ≡ 0)
  -- another one waits once more, and the others as often as before
  pub more : (stan : ℕ) (waiting : List Due) (d : Due)
      → times stan (waiting ++ d ∷ []) ≡ times stan waiting + (if d.stan == stan then 1 else 0)
  -- whoever is put off waits as often as before
  pub again : (stan at : ℕ) (waiting : List Due)
      → times stan (put_off at waiting) ≡ times stan waiting
  -- whoever is left out waits no more, and the others as often as before
  pub less : (stan out : ℕ) (waiting : List Due)
      → times stan (without out waiting) ≡ (if stan == out then 0 else times stan waiting)

-- they wait in the order in which they become due
pub record StayInTime : Type 0 where
  -- those that are due by a moment are due by each later one
  pub later : (last moment : ℕ) (waiting : List Due) → last ≤ moment
      → AreInTime last waiting → AreInTime moment waiting
  -- another one waits behind the others, where it isn't due before the last of them
  pub more : (last : ℕ) (waiting : List Due) (d : Due) → last ≤ d.at
      → AreInTime last waiting → AreInTime d.at (waiting ++ d ∷ [])
  -- the first is put off until the last is due
  pub again : (last : ℕ) (waiting : List Due)
      → AreInTime last waiting → AreInTime last (put_off last waiting)
  -- the others stay in their order, where one is left out
  pub less : (last out : ℕ) (waiting : List Due)
      → AreInTime last waiting → AreInTime last (without out waiting)
  -- no other is due before the one in front
  pub first : (waiting : List Due) (d : Due) → Some d ≡ slice_get waiting 0
      → IsInOrder waiting → AllByRecursion (λ e. d.at ≤ e.at) waiting
  -- those that are due by a moment wait in front of the others
  pub due : (now : ℕ) (waiting : List Due) → IsInOrder waiting
      → waiting ≡ due_by now waiting ++ due_later now waiting
