use Rattle.iso_jobs.specs.Encoding.{target_of}
use Rattle.iso_jobs.proofs.TextStreams.{MadeSoFar}
use Rattle.iso_jobs.proofs.encoding.make_all.Given as goal

-- what is left of the input, and what was made and written of the texts before it
abbrev pub invariant-loop : goal.invariant-loop
invariant-loop g l =
    MadeSoFar (target_of l.making) (g.R.Read.remaining l.fn.input) l.window.ahead (g.O.Write.contents l.initial.output)
    (g.O.Write.contents l.output) l.pages
