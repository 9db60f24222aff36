use Rattle.std.proofs.Common.{◌-◌, ◌≤◌, length}
use Rattle.iso_guard.specs.Guarding.{guard_of}
use Rattle.iso_guard.proofs.Frames.{FramesSoFar}
use Rattle.iso_guard.proofs.taking.take_frames.Given as goal

abbrev pub invariant-frames : goal.invariant-frames
invariant-frames g l = record {
  within : l.used ≤ length l.bytes;
  so_far : FramesSoFar (guard_of l.link l.terms) l.initial.host l.host l.bytes l.initial.waiting.items l.waiting.items l.used;
}

abbrev pub decreases-frames : goal.decreases-frames
decreases-frames g l = length l.bytes - l.used
