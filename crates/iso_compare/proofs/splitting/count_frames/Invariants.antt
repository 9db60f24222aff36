use Rattle.std.proofs.Common.{length}
use Rattle.iso_compare.proofs.Frames.{Counted}
use Rattle.iso_compare.proofs.splitting.count_frames.Given as goal

abbrev pub invariant-loop-used : goal.invariant-loop-used
invariant-loop-used l = Counted l.header l.bytes l.rest l.count

abbrev pub decreases-loop-used : goal.decreases-loop-used
decreases-loop-used l = length l.rest
