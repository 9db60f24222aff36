-- Four decimal digits, as a message type, a length and a frame's header have them: how they are written and read.
use Rattle.std.specs.Prelude.{ℕ, ◌+◌, ◌-◌, ◌*◌, ◌/◌, ◌%◌, ◌&&◌, List, [], ◌∷◌, Option, Some, None, if◌then◌else◌}
use Rattle.iso_parts.specs.declared.digits.Digits.{Digits}
use Rattle.iso_parts.specs.declared.digits.Digits.TheVariants as digits
use Rattle.iso_parts.specs.Class.{is_digit}

-- a number below 10,000 in four digits: one ASCII digit a byte, or two BCD digits a byte
abbrev pub four_digits_of : Digits → ℕ → List ℕ
four_digits_of digits.Ascii n =
    (48 + n / 1000) ∷ (48 + n / 100 % 10) ∷ (48 + n / 10 % 10) ∷ (48 + n % 10) ∷ []
four_digits_of digits.Bcd n = (16 * (n / 1000) + n / 100 % 10) ∷ (16 * (n / 10 % 10) + n % 10) ∷ []

-- the number of four digits, given as characters
abbrev pub four_digits : ℕ → ℕ → ℕ → ℕ → Option ℕ
four_digits a b c d =
    if is_digit a && is_digit b && is_digit c && is_digit d
    then Some (1000 * (a - 48) + 100 * (b - 48) + 10 * (c - 48) + (d - 48))
    else None

-- the characters of the digits in two BCD bytes
abbrev pub bcd_characters : ℕ → ℕ → List ℕ
bcd_characters x y = (48 + x / 16) ∷ (48 + x % 16) ∷ (48 + y / 16) ∷ (48 + y % 16) ∷ []

-- the number of the four digits that the bytes are
abbrev pub four_digits_in : Digits → List ℕ → Option ℕ
four_digits_in digits.Ascii (a ∷ b ∷ c ∷ d ∷ []) = four_digits a b c d
four_digits_in digits.Ascii other = None
four_digits_in digits.Bcd (x ∷ y ∷ []) =
    four_digits (48 + x / 16) (48 + x % 16) (48 + y / 16) (48 + y % 16)
four_digits_in digits.Bcd other = None
