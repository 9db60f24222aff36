use Rattle.iso_jobs.specs.Work.{task_of}
use Rattle.iso_jobs.proofs.Streams.{SoFar}
use Rattle.iso_jobs.proofs.frames.work_on_frames.Given as goal

-- what is left of the input, and what was told and written of the frames before it
abbrev pub invariant-loop : goal.invariant-loop
invariant-loop g l =
    SoFar (task_of l.job) l.header (g.R.Read.remaining l.fn.input) l.window.ahead (g.O.Write.contents l.initial.output)
    (g.O.Write.contents l.output) l.pages
