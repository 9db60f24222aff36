-- How long one waits.
use Rattle.std.specs.Prelude.{ℕ, Bool, ◌-◌, ◌*◌, ◌/◌, ◌&&◌, nat_le, min}

-- so long has passed since a moment
abbrev pub has_passed : ℕ → ℕ → ℕ → Bool
has_passed since now wait = nat_le since now && nat_le wait (now - since)

-- for the host before, three leases of so many seconds, in milliseconds
abbrev pub longest_wait : ℕ → ℕ
longest_wait seconds = seconds * 3000

-- a call about a lease takes no longer than a third of it
abbrev pub lease_timeout : ℕ → ℕ → ℕ
lease_timeout timeout seconds = min timeout (seconds * 1000 / 3)
