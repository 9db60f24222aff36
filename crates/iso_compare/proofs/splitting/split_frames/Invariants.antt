use Rattle.std.proofs.Common.{map, length}
use Rattle.iso_compare.proofs.Frames.{BeginWith}
use Rattle.iso_compare.proofs.splitting.split_frames.Given as goal

abbrev pub invariant-loop-body : goal.invariant-loop-body
invariant-loop-body l = BeginWith l.header l.bytes (map (λ b. b.now) l.bodies.items) l.rest

abbrev pub decreases-loop-body : goal.decreases-loop-body
decreases-loop-body l = length l.rest
