-- What is held back until its moment.
use Rattle.std.specs.Prelude.{◌≡◌, ◌≤◌, ℕ, nat_lt, List, [], ◌∷◌, map, if◌then◌else◌}
use Rattle.iso_plan.specs.declared.late.Held.{Held}

-- how often something was held back, and what waits with its moment, the earliest first
pub record Waiting : Type 0 where
  pub count : ℕ
  pub waits : List (ℕ × Held)

-- the entries of a map by moment and number, without the numbers
abbrev pub waits_of : List ((ℕ × ℕ) × Held) → List (ℕ × Held)
waits_of entries = map (λ e. (e.0.0, e.1)) entries

-- one more waits, behind all that wait for that moment or an earlier one
abbrev pub put : ℕ → Held → List (ℕ × Held) → List (ℕ × Held)
put at held [] = (at, held) ∷ []
put at held (w ∷ ws) = if nat_lt at w.0 then (at, held) ∷ w ∷ ws else w ∷ put at held ws

-- this one was the first that waited, and is due by that moment; the others wait on
abbrev pub IsFirstDue : ℕ → Held → List (ℕ × Held) → List (ℕ × Held) → Type 0
IsFirstDue now held old new = (at : ℕ) × (at ≤ now) × (old ≡ (at, held) ∷ new)
