-- Codes of two digits that ISO 8583:1987 gives a meaning.
use Rattle.std.specs.Prelude.{ℕ, ◌+◌, ◌-◌, ◌*◌, ◌%◌, ◌==◌, ◌&&◌, ◌||◌, nat_le, Bool, false, List, [], ◌∷◌, Option, None, Some, if◌then◌else◌}
use Rattle.iso_parts.specs.Class.{is_digit}

-- the number of two digits
abbrev pub two_digits : List ℕ → Option ℕ
two_digits [] = None
two_digits (a ∷ []) = None
two_digits (a ∷ b ∷ []) = if is_digit a && is_digit b then Some (10 * (a - 48) + (b - 48)) else None
two_digits (a ∷ b ∷ c ∷ cs) = None

-- whether there is a number, and it passes the test
abbrev pub passes : (ℕ → Bool) → Option ℕ → Bool
passes test None = false
passes test (Some n) = test n

-- whether a text is two digits whose number passes the test
abbrev pub is_code : (ℕ → Bool) → List ℕ → Bool
is_code test text = passes test (two_digits text)

-- from a first to a last number
abbrev pub is_from : ℕ → ℕ → ℕ → Bool
is_from first last n = nat_le first n && nat_le n last

-- transaction types: debits 00 to 09, credits 20 to 24, inquiries 30 and 31, transfer 40
abbrev pub is_transaction : ℕ → Bool
is_transaction n = nat_le n 9 || is_from 20 24 n || n == 30 || n == 31 || n == 40

-- account types: 00, 10, 20, 30, 40 and 50
abbrev pub is_account : ℕ → Bool
is_account n = nat_le n 50 && n % 10 == 0

-- amount types: 01 to 04
abbrev pub is_amount : ℕ → Bool
is_amount n = is_from 1 4 n

-- response codes: 00 to 44, 51 to 68, 75 and 90 to 96
abbrev pub is_response : ℕ → Bool
is_response n = nat_le n 44 || is_from 51 68 n || n == 75 || is_from 90 96 n
