-- How large a change of a balance is.
-- Inner: bodies and proofs cite it, and no public clause does.
use Rattle.std.specs.Prelude.{ℤ, ◌≤◌, unsigned_abs}
use Rattle.iso_order.specs.Order.{most_amount}

-- what one order may add or take: at most the largest amount
abbrev pub IsAmount : ℤ → Type 0
IsAmount z = unsigned_abs z ≤ most_amount
