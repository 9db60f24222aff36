use Rattle.std.specs.Io.KnownBytes.{Keeps}
use Rattle.iso_host.proofs.standard.write_uninterrupted.Given as goal

abbrev pub invariant-loop : goal.invariant-loop
invariant-loop g l = Keeps (g.S.Write.contents l.initial.stream) (g.S.Write.contents l.stream)
