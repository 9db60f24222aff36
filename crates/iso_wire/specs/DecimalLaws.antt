-- What holds of every number that is written in so many digits.
use Rattle.std.specs.Prelude.{◌≡◌, ℕ, ◌^◌, ◌<◌, ◌≤◌, true, length, List}
use Rattle.std.specs.List.{list_all}
use Rattle.iso_parts.specs.Class.{is_digit}
use Rattle.iso_wire.specs.Decimal.{decimal, are_digits, number}

-- a number and its digits
pub record DecimalLaws : Type 0 where
  -- what is written is digits
  pub digits : (n v : ℕ) → list_all is_digit (decimal n v) ≡ true
  -- as many as there are places
  pub size : (n v : ℕ) → length (decimal n v) ≡ n
  -- so it is a text of so many digits
  pub text : (n v : ℕ) → are_digits n n (decimal n v) ≡ true
  -- a text of at most so many digits is no longer
  pub most : (least most : ℕ) (digits : List ℕ) → are_digits least most digits ≡ true
      → length digits ≤ most
  -- and it tells a number below ten to that power
  pub below : (least most : ℕ) (digits : List ℕ) → are_digits least most digits ≡ true
      → number digits < 10 ^ most
  -- and what is written tells the number, where there are places enough for it
  pub number : (n v : ℕ) → v < 10 ^ n → number (decimal n v) ≡ v
