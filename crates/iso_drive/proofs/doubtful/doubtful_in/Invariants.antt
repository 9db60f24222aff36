use Rattle.std.proofs.Common.{◌≡◌, take}
use Rattle.iso_drive.specs.Doubtful.{doubtful_in}
use Rattle.iso_drive.proofs.doubtful.doubtful_in.Given as goal

-- those so far
abbrev pub invariant-loop-of : goal.invariant-loop-of
invariant-loop-of l = l.stans.items ≡ doubtful_in l.pan (take l.of-index l.made)
