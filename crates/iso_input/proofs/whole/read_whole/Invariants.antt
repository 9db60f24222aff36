use Rattle.std.proofs.Common.{◌+◌, ◌-◌, length, slice_range}
use Rattle.std.specs.Io.KnownBytes.{Consumes}
use Rattle.iso_input.proofs.whole.read_whole.Given as goal

-- the bytes so far are the first ones of the input
abbrev pub invariant-loop-held : goal.invariant-loop-held
invariant-loop-held g l = Consumes (g.R.Read.remaining l.fn.input) (g.R.Read.remaining l.input) (slice_range l.held.block.items l.held.start l.held.end)

abbrev pub decreases-loop-held : goal.decreases-loop-held
decreases-loop-held g l = l.most + 1 - length (slice_range l.held.block.items l.held.start l.held.end)
