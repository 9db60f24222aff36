-- What an account may hold at first.
use Rattle.std.specs.Prelude.{ℤ, pos, negsuc, ◌≤ℤ◌}

-- at most 9,000,000,000,000,000 minor units, either way
abbrev pub IsInRange : ℤ → Type 0
IsInRange opening = (negsuc 8999999999999999 ≤ℤ opening) × (opening ≤ℤ pos 9000000000000000)
