-- How many purchases begin, and until when.
use Rattle.std.specs.Prelude.{◌≤◌, ◌<◌, ◌-◌, ◌+◌, ◌*◌, ◌/◌, ℕ, min, nat_le, nat_lt, ◌||◌, Option, Some, None, if◌then◌else◌}
use Rattle.iso_plan.specs.declared.pace.Pace.{Pace}

-- the last of all moments
abbrev pub most_moment : ℕ
most_moment = 18446744073709551615

-- how long a run takes at most, in milliseconds
abbrev pub whole_time : ℕ → ℕ
whole_time seconds = min (seconds * 1000) most_moment

-- the moment from which on no purchase begins: four times the patience before the end of the run, at most the half of it
abbrev pub closing_moment : ℕ → ℕ → ℕ
closing_moment seconds patience =
    whole_time seconds - min (whole_time seconds / 2) (min (patience * 4) most_moment)

-- how many may have begun so long after the opening: those of the rate, and no more than the count
abbrev pub by_rate : Option ℕ → ℕ → ℕ → ℕ
by_rate None count elapsed = count
by_rate (Some rate) count elapsed = min (elapsed * rate / 1000) count

-- how many may have begun at a moment of the run
abbrev pub allowed : Pace → ℕ → ℕ
allowed p elapsed = by_rate p.rate p.count (elapsed - p.opening)

-- how many begin at a moment: those that may have begun and haven't, as far as there is room for open ones; none before the
-- opening, and none once it closes
abbrev pub due_purchases : Pace → ℕ → ℕ → ℕ → ℕ
due_purchases p elapsed begun opened =
    if nat_lt elapsed p.opening || nat_le p.closing elapsed then 0
    else min (allowed p elapsed - begun) (p.most_open - opened)

-- so long after the opening the rate allows one more than so many, and no sooner
abbrev pub IsNextAt : ℕ → ℕ → ℕ → Type 0
IsNextAt rate begun at =
    (begun + 1 ≤ at * rate / 1000) × ((before : ℕ) → before < at → before * rate / 1000 ≤ begun)

-- the same where a rate is given; without one there is no such moment
abbrev pub IsNextMoment : Option ℕ → ℕ → ℕ → Type 0
IsNextMoment None begun at = ⊥
IsNextMoment (Some rate) begun at = IsNextAt rate begun at
