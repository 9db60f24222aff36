use Rattle.std.specs.Io.KnownBytes.{Keeps}
use Rattle.iso_host.proofs.standard.read_uninterrupted.Given as goal

abbrev pub invariant-loop : goal.invariant-loop
invariant-loop g l = Keeps (g.S.Read.remaining l.initial.stream) (g.S.Read.remaining l.stream)
