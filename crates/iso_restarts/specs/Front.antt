-- What a crash leaves of a log of notes.
use Rattle.std.specs.Prelude.{◌≡◌, ℕ, List, ◌++◌, take}
use Rattle.iso_restarts.specs.declared.note.Note.{Note}

-- these notes, and of those behind them some from the front
abbrev pub LeavesFront : (List Note → Type 0) → List Note → List Note → Type 0
LeavesFront may_leave synced pending = (c : List Note) → may_leave c
    → (n : ℕ) × (c ≡ synced ++ take n pending)

-- what holds of each log in memory
abbrev pub Always : Type 0
Always = Unit
