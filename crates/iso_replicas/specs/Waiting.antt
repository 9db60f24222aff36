-- How long one waits, and when something is due.
use Rattle.std.specs.Prelude.{ℕ, ◌-◌, ◌*◌, ◌&&◌, ◌/◌, Bool, false, Option, Some, None, nat_lt, nat_le}

-- a moment is before an end, where both are known
abbrev pub is_before : Option ℕ → Option ℕ → Bool
is_before (Some now) (Some end) = nat_lt now end
is_before (Some now) None = false
is_before None end = false

-- a lease of so many seconds that was kept at a moment is due to be kept again: after a third of it
abbrev pub is_due : ℕ → ℕ → ℕ → Bool
is_due seconds kept now = nat_le kept now && nat_le (seconds * 1000 / 3) (now - kept)
