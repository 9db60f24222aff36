-- Whose turn it is.
use Rattle.std.specs.Prelude.{ℕ, ◌+◌, nat_lt, if◌then◌else◌}

-- one after the other, and after the last one the first
abbrev pub turn_after : ℕ → ℕ → ℕ
turn_after turn count = if nat_lt (turn + 1) count then turn + 1 else 0
