use Rattle.std.proofs.Common.{◌≡◌, map, take}
use Rattle.rumpadol_buying.specs.Buyers.{buyer_of}
use Rattle.rumpadol_buying.proofs.buyers.buyers_in.Given as goal

-- those so far
abbrev pub invariant-loop-balance : goal.invariant-loop-balance
invariant-loop-balance l = l.buyers.items ≡ map buyer_of (take l.balance-index l.balances)
