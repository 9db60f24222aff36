use Rattle.std.proofs.Common.{◌≡◌, ◌++◌, List, length}
use Rattle.iso_frames.specs.declared.reading.Read.{Read}
use Rattle.iso_frames.specs.Reading.{TakesFrames}
use Rattle.iso_frames.proofs.reading.take_frames.Given as goal

abbrev pub invariant-frames : goal.invariant-frames
invariant-frames l =
    (more : List Read) × TakesFrames l.table l.header l.initial.came.items l.came.items more
    × (l.read.items ≡ l.initial.read.items ++ more)

abbrev pub decreases-frames : goal.decreases-frames
decreases-frames l = length l.came.items
