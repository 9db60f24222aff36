-- Where a frame was got, its body lies behind the header, and the answer is the frame's size.
use Rattle.std.proofs.Common.{rules}
use Rattle.iso_c.proofs.frames.rumpadol_unframe.Goals as goal

pub returns-in-Ok-Got-clause-reply : goal.returns-in-Ok-Got-clause-reply
returns-in-Ok-Got-clause-reply c = search rules
