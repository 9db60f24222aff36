-- How long may be waited.
use Rattle.std.specs.Prelude.{ℕ, ◌-◌, min, nat_lt, Option, Some, None, if◌then◌else◌}

-- what is left before the end, and not more than the most; nothing from the end on
abbrev pub left_of : ℕ → ℕ → ℕ → Option ℕ
left_of now end most = if nat_lt now end then Some (min (end - now) most) else None
