-- How full the journal is, and when that is told.
use Rattle.std.specs.Prelude.{ℕ, ◌*◌, nat_le, nat_lt, Option, Some, None, if◌then◌else◌}

-- the hundredths of the limit that are told and that so many entries reach
abbrev pub reached : ℕ → ℕ → ℕ
reached entries limit =
    if nat_le (99 * limit) (100 * entries) then 99
    else if nat_le (90 * limit) (100 * entries) then 90
    else 0

-- they are told where more are reached than were told before
abbrev pub rising : ℕ → ℕ → Option ℕ
rising now told = if nat_lt told now then Some now else None

-- what was told then
abbrev pub told_after : ℕ → ℕ → ℕ
told_after now told = if nat_lt told now then now else told
