-- The accounts that are bought with.
use Rattle.std.specs.Prelude.{ℤ}
use Rattle.iso_issuer.specs.declared.balances.Balance.{Balance}
use Rattle.iso_plan.specs.declared.plan.Buyer.{Buyer}

-- an account that is bought with
abbrev pub buyer_of : Balance → Buyer
buyer_of b = record { pan = b.account.pan; currency = b.account.currency }

-- what is on it at first
abbrev pub opening_of : Balance → ℤ
opening_of b = b.account.opening
