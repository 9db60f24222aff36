use Rattle.std.proofs.Common.{◌≡◌, map, take}
use Rattle.rumpadol_buying.specs.Buyers.{opening_of}
use Rattle.rumpadol_buying.proofs.buyers.openings_in.Given as goal

-- those so far
abbrev pub invariant-loop-balance : goal.invariant-loop-balance
invariant-loop-balance l = l.openings.items ≡ map opening_of (take l.balance-index l.balances)
