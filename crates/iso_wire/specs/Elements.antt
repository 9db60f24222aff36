-- Elements: numbers with values, in ascending order.
use Rattle.std.specs.Prelude.{◌≢◌, ℕ, ◌+◌, ◌<◌, ◌≤◌, ◌==◌, nat_lt, Bool, is_some, if◌then◌else◌, List, [], ◌∷◌, Option, Some, None}

-- what stands at an element's number, if the element is there
abbrev pub value_in : {A : Type 0} → List (ℕ × A) → ℕ → Option A
value_in [] n = None
value_in (e ∷ es) n = if e.0 == n then Some e.1 else value_in es n

-- whether the element is there
abbrev pub has : List (ℕ × List ℕ) → ℕ → Bool
has es n = is_some (value_in es n)

-- the numbers ascend from low on, and are those of elements
abbrev pub IsAscending : ℕ → List (ℕ × List ℕ) → Type 0
IsAscending low [] = Unit {0}
IsAscending low (e ∷ es) = (low ≤ e.0) × (e.0 ≤ 128) × (e.0 ≢ 65) × IsAscending (e.0 + 1) es

-- each number is below n
abbrev pub IsBelow : ℕ → List (ℕ × List ℕ) → Type 0
IsBelow n [] = Unit {0}
IsBelow n (e ∷ es) = (e.0 < n) × IsBelow n es

-- the value at its number, in place of the one that was there
abbrev pub put : ℕ → List ℕ → List (ℕ × List ℕ) → List (ℕ × List ℕ)
put n v [] = (n, v) ∷ []
put n v (e ∷ es) =
    if nat_lt e.0 n then e ∷ put n v es else if e.0 == n then (n, v) ∷ es else (n, v) ∷ e ∷ es

-- the other elements
abbrev pub without : ℕ → List (ℕ × List ℕ) → List (ℕ × List ℕ)
without n [] = []
without n (e ∷ es) = if e.0 == n then without n es else e ∷ without n es
