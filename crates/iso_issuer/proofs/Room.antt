-- Balances stay far from the ends of an i64.
use Rattle.std.proofs.Common.{ℕ, ◌+◌, ◌≤◌, Bool, true, false, cond, arith, List}
use Rattle.std.specs.Prelude.{map, All}
use Rattle.std.proofs.lemmas.Int.{ints}
use Rattle.std.proofs.lemmas.List.Elements.{All-map, All-weaker}
use Rattle.iso_order.specs.Order.{same_pan}
use Rattle.iso_issuer.specs.declared.account.Account.{Account}
use Rattle.iso_issuer.specs.declared.balances.Balance.{Balance}
use Rattle.iso_issuer.specs.declared.change.Change.{Change}
use Rattle.iso_issuer.specs.Balances.{balance_with, opening_balance, balance_after, IsNear}

near_weaker : (n m : ℕ) → n ≤ m → (b : Balance) → IsNear n b → IsNear m b
near_weaker n m le b near = record {
  ledger_low = omega (arith, ints);
  ledger_high = omega (arith, ints);
  available_low = omega (arith, ints);
  available_high = omega (arith, ints);
}

-- room for more entries
pub near-more : (n m : ℕ) (balances : List Balance) → n ≤ m → All (IsNear n) balances → All (IsNear m) balances
near-more n m balances le near = All-weaker (IsNear n) (IsNear m) (near_weaker n m le) balances near

near_added : (n : ℕ) (c : Change) (b : Balance) → IsNear n b → IsNear (n + 1) (balance_with c b)
near_added n c b near = record {
  ledger_low = omega (arith, ints);
  ledger_high = omega (arith, ints);
  available_low = omega (arith, ints);
  available_high = omega (arith, ints);
}

near_posted : (n : ℕ) (c : Change) (b : Balance) → IsNear n b → IsNear (n + 1) (balance_after c b)
near_posted n c b near = by_test (same_pan c.pan b.account.pan)
  where
    by_test : (t : Bool) → IsNear (n + 1) (cond t (balance_with c b) b)
    by_test true = near_added n c b near
    by_test false = near_weaker n (n + 1) (omega arith) b near

-- a change moves a balance by an amount at most
pub near-posted : (n : ℕ) (c : Change) (balances : List Balance) → All (IsNear n) balances → All (IsNear (n + 1)) (map (balance_after c) balances)
near-posted n c balances near =
    All-map (IsNear (n + 1)) (balance_after c) balances
    (All-weaker (IsNear n) (λ b. IsNear (n + 1) (balance_after c b)) (near_posted n c) balances near)

near_opened : (a : Account) → IsNear 0 (opening_balance a)
near_opened a = record {
  ledger_low = omega (arith, ints);
  ledger_high = omega (arith, ints);
  available_low = omega (arith, ints);
  available_high = omega (arith, ints);
}

-- at first each balance is an opening amount
pub near-opened : (accounts : List Account) → All (IsNear 0) (map opening_balance accounts)
near-opened accounts = All-map (IsNear 0) opening_balance accounts (λ k d below. near_opened _)
