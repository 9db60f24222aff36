-- What an issuer keeps of each account, and how a change is added to it. The models of `Accounts` and `Issuer` are made of it.
-- Inner: bodies and proofs cite it, and no public clause does.
use Rattle.std.specs.Prelude.{◌≡◌, ℕ, pos, ◌+ℤ◌, ◌≤ℤ◌, ◌+◌, ◌*◌, List, [], ◌∷◌, Option, None, find, map, if◌then◌else◌}
use Rattle.iso_order.specs.Pan.{AccountNumber}
use Rattle.iso_order.specs.Order.{same_pan}
use Rattle.iso_issuer.specs.declared.account.Account.{Account}
use Rattle.iso_issuer.specs.declared.balances.Balance.{Balance}
use Rattle.iso_issuer.specs.declared.change.Change.{Change}
use Rattle.iso_issuer.specs.Account.{account_of}

-- the accounts of the balances, in their order
abbrev pub accounts_of : List Balance → List Account
accounts_of balances = map (λ b. b.account) balances

-- no two accounts have one number
abbrev pub HasDistinctNumbers : List Account → Type 0
HasDistinctNumbers [] = Unit {0}
HasDistinctNumbers (a ∷ later) = (account_of later a.pan ≡ None) × HasDistinctNumbers later

-- the balance of this number, where it has an account
abbrev pub balance_at : List Balance → AccountNumber → Option Balance
balance_at balances pan = find (λ b. same_pan b.account.pan pan) balances

-- an account as it is at first
abbrev pub opening_balance : Account → Balance
opening_balance a = record { account = a; ledger = a.opening; available = a.opening }

-- a balance with the amounts of a change added
abbrev pub balance_with : Change → Balance → Balance
balance_with c b = record {
  account = b.account;
  ledger = b.ledger +ℤ c.ledger;
  available = b.available +ℤ c.available;
}

-- a balance after a change, which is of one account
abbrev pub balance_after : Change → Balance → Balance
balance_after c b = if same_pan c.pan b.account.pan then balance_with c b else b

-- within 9,000,000,000,000,000 and an amount for each of n entries, either way
pub record IsNear (n : ℕ) (b : Balance) : Type 0 where
  pub ledger_low : pos 0 ≤ℤ (b.ledger +ℤ pos (9000000000000000 + 1000000000000 * n))
  pub ledger_high : b.ledger ≤ℤ pos (9000000000000000 + 1000000000000 * n)
  pub available_low : pos 0 ≤ℤ (b.available +ℤ pos (9000000000000000 + 1000000000000 * n))
  pub available_high : b.available ≤ℤ pos (9000000000000000 + 1000000000000 * n)
