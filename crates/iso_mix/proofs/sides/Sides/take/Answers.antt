-- An order that is answered waits no more, even where its hold is now ready for a follower.
use Rattle.std.proofs.Common.{rules}
use Rattle.iso_mix.proofs.sides.Sides.take.Goals as goal

pub returns-then-is_free_at-clause-waiting : goal.returns-then-is_free_at-clause-waiting
returns-then-is_free_at-clause-waiting c = search rules
