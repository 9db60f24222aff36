-- Who waits for an answer, until when, and in which order.
use Rattle.std.specs.Prelude.{◌≤◌, ℕ, Bool, false, not, ◌==◌, ◌+◌, List, [], ◌∷◌, ◌++◌, nat_le, min, count_by, map, filter, take, drop}
use Rattle.std.specs.List.{AllByRecursion, list_any}
use Rattle.iso_waits.specs.declared.due.Due.{Due}

-- the moment so long after another, or the last of all
abbrev pub moment_after : ℕ → ℕ → ℕ
moment_after now patience = min (now + patience) 18446744073709551615

-- no answer came until that moment
abbrev pub is_due : ℕ → Due → Bool
is_due now d = nat_le d.at now

-- those that are due by that moment, in their order, and the others
abbrev pub due_by : ℕ → List Due → List Due
due_by now waiting = filter (is_due now) waiting

-- those that aren't due by that moment, in their order
abbrev pub due_later : ℕ → List Due → List Due
due_later now waiting = filter (λ d. not (is_due now d)) waiting

-- the same orders, due at that moment
abbrev pub again : ℕ → List Due → List Due
again at waiting = map (λ d. record { stan = d.stan; at = at }) waiting

-- the first one waits until that moment, behind all others
abbrev pub put_off : ℕ → List Due → List Due
put_off at waiting = drop 1 waiting ++ again at (take 1 waiting)

-- those but for the order of that trace number
abbrev pub without : ℕ → List Due → List Due
without stan waiting = filter (λ d. not (d.stan == stan)) waiting

-- the order of that trace number waits first
abbrev pub is_first : ℕ → List Due → Bool
is_first stan [] = false
is_first stan (d ∷ ds) = d.stan == stan

-- the order of that trace number waits
abbrev pub waits : ℕ → List Due → Bool
waits stan waiting = list_any (λ d. d.stan == stan) waiting

-- how often the order of that trace number waits
abbrev pub times : ℕ → List Due → ℕ
times stan waiting = count_by (λ d. d.stan == stan) waiting

-- who is due first waits first
abbrev pub IsInOrder : List Due → Type 0
IsInOrder [] = Unit {0}
IsInOrder (d ∷ ds) = AllByRecursion (λ e. d.at ≤ e.at) ds × IsInOrder ds

-- they wait in the order in which they become due, the last of them by that moment
pub record AreInTime (last : ℕ) (waiting : List Due) : Type 0 where
  pub in_order : IsInOrder waiting
  pub none_later : AllByRecursion (λ d. d.at ≤ last) waiting
