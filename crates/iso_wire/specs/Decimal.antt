-- Numbers in decimal.
use Rattle.std.specs.Prelude.{ℕ, zero, suc, ◌+◌, ◌-◌, ◌*◌, ◌/◌, ◌%◌, Bool, ◌&&◌, nat_le, List, [], ◌∷◌, ◌++◌, length, Option, Some, None, option_and_then, if◌then◌else◌}
use Rattle.std.specs.List.{list_all}
pub use Rattle.iso_parts.specs.Class.{is_digit}
use Rattle.iso_wire.specs.Elements.{value_in}

-- the last digits of a number, as characters
abbrev pub decimal : ℕ → ℕ → List ℕ
decimal zero v = []
decimal (suc digits) v = decimal digits (v / 10) ++ (48 + v % 10) ∷ []

-- from `least` to `most` digits, and nothing else
abbrev pub are_digits : ℕ → ℕ → List ℕ → Bool
are_digits least most text =
    nat_le least (length text) && nat_le (length text) most && list_all is_digit text

-- the number that digits write behind those of `before`
abbrev pub number_after : ℕ → List ℕ → ℕ
number_after before [] = before
number_after before (d ∷ ds) = number_after (10 * before + (d - 48)) ds

-- the number that digits write: leading zeros don't count
abbrev pub number : List ℕ → ℕ
number text = number_after 0 text

-- the number of a text of `least` to `most` digits
abbrev pub number_in : ℕ → ℕ → List ℕ → Option ℕ
number_in least most text = if are_digits least most text then Some (number text) else None

-- the number of an element, if it is there and its value is 1 to 19 digits
abbrev pub number_at : List (ℕ × List ℕ) → ℕ → Option ℕ
number_at es n = option_and_then (number_in 1 19) (value_in es n)
