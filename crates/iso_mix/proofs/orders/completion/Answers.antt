-- A completion takes 1 to all of the amount that is held, from the same account.
use Rattle.std.proofs.Common.{rules}
use Rattle.iso_mix.proofs.orders.completion.Goals as goal

pub returns : goal.returns
returns c = search rules
