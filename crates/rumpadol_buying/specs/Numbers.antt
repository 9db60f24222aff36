-- Fractions and ranges, as words write them.
use Rattle.std.specs.Prelude.{ℕ, ◌+◌, ◌*◌, ◌-◌, ◌^◌, ◌==◌, List, [], ◌∷◌, Option, Some, None, length, take, drop, nat_le, option_and_then, option_map, position, if◌then◌else◌}
use Rattle.iso_wire.specs.Decimal.{number_in}

-- a number, where it is at most that
abbrev pub at_most : ℕ → ℕ → Option ℕ
at_most most n = if nat_le n most then Some n else None

-- the two numbers, where the first is the least
abbrev pub ascending : ℕ → ℕ → Option (ℕ × ℕ)
ascending least most = if nat_le least most then Some (least, most) else None

-- where the first point is
abbrev pub point_in : List ℕ → Option ℕ
point_in text = position (λ b. b == 46) text

-- the millionths of 1 to 6 digits behind a point
abbrev pub part_of : List ℕ → Option ℕ
part_of digits = option_map (λ n. n * 10 ^ (6 - length digits)) (number_in 1 6 digits)

-- so many ones and so many millionths, where they are at most one
abbrev pub joined : Option ℕ → Option ℕ → Option ℕ
joined whole part =
    option_and_then (λ w. option_and_then (λ p. at_most 1000000 (w * 1000000 + p)) part) whole

-- a fraction with its point there
abbrev pub fraction_at : List ℕ → Option ℕ → Option ℕ
fraction_at text None = joined (number_in 1 9 text) (Some 0)
fraction_at text (Some at) = joined (number_in 1 9 (take at text)) (part_of (drop (at + 1) text))

-- the millionths of a fraction from 0 to 1: 1 to 9 digits, or such digits, a point and 1 to 6 digits
abbrev pub millionths_of : List ℕ → Option ℕ
millionths_of text = fraction_at text (point_in text)

-- two numbers of 1 to 19 digits, where the first is the least
abbrev pub range_between : List ℕ → List ℕ → Option (ℕ × ℕ)
range_between least most =
    option_and_then (λ l. option_and_then (λ m. ascending l m) (number_in 1 19 most))
    (number_in 1 19 least)

-- what stands behind the first number of a range: two points and the other number
abbrev pub range_behind : List ℕ → List ℕ → Option (ℕ × ℕ)
range_behind least [] = None
range_behind least (a ∷ []) = None
range_behind least (a ∷ b ∷ most) =
    if a == 46 then (if b == 46 then range_between least most else None) else None

-- a range with its first point there
abbrev pub range_at : List ℕ → Option ℕ → Option (ℕ × ℕ)
range_at text None = range_between text text
range_at text (Some at) = range_behind (take at text) (drop at text)

-- a range: two numbers with two points between them, or one number, which is both
abbrev pub range_of : List ℕ → Option (ℕ × ℕ)
range_of text = range_at text (point_in text)
