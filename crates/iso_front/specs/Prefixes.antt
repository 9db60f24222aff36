-- Prefixes of account numbers.
use Rattle.std.specs.Prelude.{◌≡◌, ℕ, ◌/◌, ◌^◌, ◌-◌, ◌==◌, Bool, true, ◌&&◌, nat_le, nat_lt}
use Rattle.std.specs.Prelude.{List, length, Option, Some, None, if◌then◌else◌}
use Rattle.iso_wire.specs.Decimal.{are_digits, number}
use Rattle.iso_order.specs.Pan.{AccountNumber, is_pan}
use Rattle.iso_front.specs.declared.prefixes.Prefixes.{Prefixes}

-- the first so many digits of an account number that has as many
abbrev pub first_digits : ℕ → AccountNumber → ℕ
first_digits count pan = pan.digits / 10 ^ (pan.len - count)

-- a number lies between two, both within
abbrev pub is_between : ℕ → ℕ → ℕ → Bool
is_between least most n = nat_le least n && nat_le n most

-- The account number begins with one of the prefixes. One of fewer digits than they have begins
-- with none
abbrev pub covers : Prefixes → AccountNumber → Bool
covers p pan = nat_le p.digits pan.len && is_between p.from p.to (first_digits p.digits pan)

-- no account number begins with one of each
abbrev pub AreApart : Prefixes → Prefixes → Type 0
AreApart one other =
    (pan : AccountNumber) → covers one pan ≡ true → covers other pan ≡ true → ⊥

-- an account number that begins with one of each
pub record Meeting (one other : Prefixes) : Type 0 where
  pub pan : AccountNumber
  pub valid : is_pan pan ≡ true
  pub by_one : covers one pan ≡ true
  pub by_other : covers other pan ≡ true

-- 1 to 19 digits, and a first prefix that isn't behind the last one
abbrev pub are_prefixes : Prefixes → Bool
are_prefixes p =
    nat_le 1 p.digits && nat_le p.digits 19 && nat_le p.from p.to && nat_lt p.to (10 ^ p.digits)

-- two texts write the first prefix and the last one: as many digits, and in order
abbrev pub are_written : List ℕ → List ℕ → Bool
are_written from to =
    are_digits 1 19 from && are_digits 1 19 to && length from == length to
    && nat_le (number from) (number to)

-- the prefixes that two texts write
abbrev pub prefixes_of : List ℕ → List ℕ → Option Prefixes
prefixes_of from to =
    if are_written from to
    then Some (record { digits = length from; from = number from; to = number to })
    else None

-- Of prefixes of so many more digits, some begin with the shorter ones: what the first and the last
-- of them begin with reaches into these
abbrev pub reaches : ℕ → Prefixes → Prefixes → Bool
reaches more short long =
    nat_le (long.from / 10 ^ more) short.to && nat_le short.from (long.to / 10 ^ more)

-- an account number can begin with one of each
abbrev pub meets : Prefixes → Prefixes → Bool
meets one other =
    if nat_le one.digits other.digits
    then reaches (other.digits - one.digits) one other
    else reaches (one.digits - other.digits) other one
