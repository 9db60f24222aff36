-- Where the follower was granted, its amount is what is taken of the hold.
use Rattle.std.proofs.Common.{rules}
use Rattle.iso_mix.proofs.taken.left_by.Goals as goal

pub returns-in-Some : goal.returns-in-Some
returns-in-Some c = search rules
