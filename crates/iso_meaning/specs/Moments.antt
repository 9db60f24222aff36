-- Dates and times of elements 7, 12 and 13.
use Rattle.std.specs.Prelude.{ℕ, ◌+◌, ◌/◌, ◌%◌, ◌==◌, ◌&&◌, ◌||◌, nat_le, Bool, List, [], ◌∷◌, ◌++◌, length, take, drop, Option, None, Some, option_map, if◌then◌else◌, codes}
use Rattle.iso_meaning.specs.Codes.{two_digits}
use Rattle.iso_meaning.specs.declared.moments.Date.{Date}
use Rattle.iso_meaning.specs.declared.moments.Time.{Time}
use Rattle.iso_meaning.specs.declared.moments.Moment.{Moment}

-- whether a month and a day may follow a year of two digits, of any century; without one 29 February is a day
abbrev pub leaps : Option ℕ → Bool
leaps None = nat_le 0 0
leaps (Some year) = year % 4 == 0

-- how many days a month has
abbrev pub month_days : Bool → ℕ → ℕ
month_days leaps month =
    if month == 2 then (if leaps then 29 else 28)
    else if month == 4 || month == 6 || month == 9 || month == 11 then 30
    else if nat_le 1 month && nat_le month 12 then 31
    else 0

-- whether it is a day of the year
abbrev pub is_day : Option ℕ → ℕ → ℕ → Bool
is_day year month day = nat_le 1 day && nat_le day (month_days (leaps year) month)

-- the date of two numbers, if it is one
abbrev pub date_by : Option ℕ → Option ℕ → Option ℕ → Option Date
date_by year None day = None
date_by year (Some m) None = None
date_by year (Some m) (Some d) =
    if is_day year m d then Some (record { year = year; month = m; day = d }) else None

-- the date that four digits, month and day, tell behind a year
abbrev pub date_of : Option ℕ → List ℕ → Option Date
date_of year text = date_by year (two_digits (take 2 text)) (two_digits (drop 2 text))

-- the time of three numbers, if it is one
abbrev pub time_by : Option ℕ → Option ℕ → Option ℕ → Option Time
time_by None minute second = None
time_by (Some h) None second = None
time_by (Some h) (Some m) None = None
time_by (Some h) (Some m) (Some s) = if nat_le h 23 && nat_le m 59 && nat_le s 59
    then Some (record { hour = h; minute = m; second = s }) else None

-- the time that six digits, hour, minute and second, tell
abbrev pub time_of : List ℕ → Option Time
time_of text = time_by (two_digits (take 2 text)) (two_digits (take 2 (drop 2 text)))
    (two_digits (drop 4 text))

-- a date and a time
abbrev pub both : Option Date → Option Time → Option Moment
both None time = None
both (Some d) None = None
both (Some d) (Some t) = Some (record { date = Some d; time = Some t })

-- the moment that ten digits tell behind a year
abbrev pub date_and_time : Option ℕ → List ℕ → Option Moment
date_and_time year text = both (date_of year (take 4 text)) (time_of (drop 4 text))

-- the moment that ten digits tell behind the two of a year
abbrev pub in_year : Option ℕ → List ℕ → Option Moment
in_year None text = None
in_year (Some y) text = date_and_time (Some y) text

-- the moment of a value, by its length: MMDD, hhmmss, MMDDhhmmss or YYMMDDhhmmss
abbrev pub moment_of : List ℕ → Option Moment
moment_of v =
    if length v == 4 then option_map (λ d. record { date = Some d; time = None }) (date_of None v)
    else if length v == 6 then option_map (λ t. record { date = None; time = Some t }) (time_of v)
    else if length v == 10 then date_and_time None v
    else if length v == 12 then in_year (two_digits (take 2 v)) (drop 2 v)
    else None

-- ---- as text

-- two digits
abbrev pub padded : ℕ → List ℕ
padded n = (48 + n / 10) ∷ (48 + n % 10) ∷ []

-- the name of a month
unfoldable pub month_name : ℕ → List ℕ
month_name m =
    if m == 1 then codes "January"
    else if m == 2 then codes "February"
    else if m == 3 then codes "March"
    else if m == 4 then codes "April"
    else if m == 5 then codes "May"
    else if m == 6 then codes "June"
    else if m == 7 then codes "July"
    else if m == 8 then codes "August"
    else if m == 9 then codes "September"
    else if m == 10 then codes "October"
    else if m == 11 then codes "November"
    else codes "December"

-- the year behind a date, if it is known
abbrev pub year_text : Option ℕ → List ℕ
year_text None = []
year_text (Some y) = codes " of year " ++ padded y

-- a date: 02 January of year 26
abbrev pub date_text : Date → List ℕ
date_text d = padded d.day ++ (codes " " ++ (month_name d.month ++ year_text d.year))

-- a time: 03:04:05
abbrev pub time_text : Time → List ℕ
time_text t = padded t.hour ++ codes ":" ++ padded t.minute ++ codes ":" ++ padded t.second

-- what stands between a date and a time
abbrev pub comma : Option Date → Option Time → List ℕ
comma (Some d) (Some t) = codes ", "
comma (Some d) None = []
comma None time = []

-- the text of what may be there
abbrev pub text_if : {A : Type 0} → (A → List ℕ) → Option A → List ℕ
text_if text None = []
text_if text (Some x) = text x

-- a moment: 02 January, 03:04:05
abbrev pub moment_text : Moment → List ℕ
moment_text m = text_if date_text m.date ++ (comma m.date m.time ++ text_if time_text m.time)
