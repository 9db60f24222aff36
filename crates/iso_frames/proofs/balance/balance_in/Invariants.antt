use Rattle.std.proofs.Common.{◌≡◌, ◌-◌}
use Rattle.iso_frames.specs.Balance.{balance_from}
use Rattle.iso_frames.proofs.balance.balance_in.Given as goal

abbrev pub invariant-loop : goal.invariant-loop
invariant-loop l = (balance_from 6 l.currency l.amounts ≡ balance_from (6 - l.counter) l.currency l.rest)
