use Rattle.std.proofs.Common.{◌≡◌, take, drop, map, []}
use Rattle.iso_issuer.specs.Balances.{accounts_of, opening_balance}
use Rattle.iso_issuer.specs.Document.{accounts_fault, as_listed}
use Rattle.iso_issuer.proofs.accounts.opening_balances.Given as goal

-- the accounts so far are those listed, each as it is at first, and the first fault is among the rest
abbrev pub invariant-loop-i : goal.invariant-loop-i
invariant-loop-i l = record {
  same : map as_listed (accounts_of l.balances) ≡ take l.i l.listed;
  opened : l.balances ≡ map opening_balance (accounts_of l.balances);
  rest : accounts_fault [] l.listed ≡ accounts_fault (take l.i l.listed) (drop l.i l.listed);
}
