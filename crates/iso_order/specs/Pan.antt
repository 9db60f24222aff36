-- Account numbers (ISO 8583:1987, element 2, primary account number): what one is, which text one is, and how logs show it.
use Rattle.std.specs.Prelude.{ℕ, Bool, ◌^◌, ◌&&◌, nat_lt, nat_le, List, length, Option, option_map}
use Rattle.iso_parts.specs.declared.class.CharClass.TheVariants.{N}
use Rattle.iso_wire.specs.Decimal.{decimal, number_in}
use Rattle.iso_wire.specs.Describing.{value_text}

-- the digits as a number, and how many there are
pub record AccountNumber : Type 0 where
  pub digits : ℕ
  pub len : ℕ

-- 1 to 19 digits
abbrev pub is_pan : AccountNumber → Bool
is_pan p = nat_le 1 p.len && nat_le p.len 19 && nat_lt p.digits (10 ^ p.len)

-- the number of 1 to 19 digits, with how many there are
abbrev pub pan_of : List ℕ → Option AccountNumber
pan_of text = option_map (λ n. record { digits = n; len = length text }) (number_in 1 19 text)

-- as a message's lines show it: an asterisk for each digit, but for the first six and the last four of 13 or more
abbrev pub masked_digits : List ℕ → List ℕ
masked_digits digits = value_text N 2 digits

-- the account number as a log shows it
abbrev pub masked_number : AccountNumber → List ℕ
masked_number p = masked_digits (decimal p.len p.digits)
