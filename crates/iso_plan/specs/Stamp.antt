-- The transmission date and time of a message.
use Rattle.std.specs.Prelude.{◌≡◌, ℕ, ◌+◌, ◌-◌, ◌*◌, ◌%◌, pos}
use Rattle.jiff.specs.Words.{civil_nanos}
use Rattle.jiff.specs.declared.civil.datetimes.DateTime.{DateTime}

-- month, day, hour, minute and second, in two digits each (element 7)
abbrev pub stamp_of : DateTime → ℕ
stamp_of t =
    ((t.date.month * 100 + t.date.day) * 1000000)
    + (t.time.hour * 10000 + t.time.minute * 100 + t.time.second)

-- it is that of the date and time in UTC at so many milliseconds since 1970
abbrev pub IsStampAt : ℕ → ℕ → Type 0
IsStampAt since sent = (t : DateTime) × (civil_nanos t ≡ pos (since * 1000000))
    × (sent ≡ stamp_of t)

-- the milliseconds from a moment, in milliseconds since 1970, to the next second
abbrev pub left_of_second : ℕ → ℕ
left_of_second since = 1000 - since % 1000
