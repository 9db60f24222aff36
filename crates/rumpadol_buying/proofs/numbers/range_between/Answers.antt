-- Two numbers are a range where the first isn't above the second.
use Rattle.std.proofs.Common.{rules}
use Rattle.rumpadol_buying.proofs.numbers.range_between.Goals as goal

pub returns-then-least-most : goal.returns-then-least-most
returns-then-least-most c = search rules
