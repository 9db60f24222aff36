-- Currencies by ISO 4217.
use Rattle.std.specs.Prelude.{ℕ, ◌+◌, ◌-◌, ◌*◌, ◌==◌, ◌&&◌, nat_le, Bool, is_some, List, [], ◌∷◌, length, Option, None, Some, if◌then◌else◌}
use Rattle.std.specs.List.{list_all}
use Rattle.iso_parts.specs.Class.{is_digit}

-- the number of three digits
abbrev pub three_digits : List ℕ → Option ℕ
three_digits [] = None
three_digits (a ∷ []) = None
three_digits (a ∷ b ∷ []) = None
three_digits (a ∷ b ∷ c ∷ []) = if is_digit a && is_digit b && is_digit c
    then Some (100 * (a - 48) + 10 * (b - 48) + (c - 48)) else None
three_digits (a ∷ b ∷ c ∷ d ∷ ds) = None

-- three digits and nothing else
abbrev pub is_three_digits : List ℕ → Bool
is_three_digits code = is_some (three_digits code)

-- a capital letter
abbrev pub is_capital : ℕ → Bool
is_capital b = nat_le 65 b && nat_le b 90

-- three capital letters
abbrev pub is_alphabetic : List ℕ → Bool
is_alphabetic text = length text == 3 && list_all is_capital text
