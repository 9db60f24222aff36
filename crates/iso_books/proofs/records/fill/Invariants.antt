use Rattle.std.specs.Io.KnownBytes.{Keeps}
use Rattle.iso_books.proofs.records.fill.Given as goal

abbrev pub invariant-loop : goal.invariant-loop
invariant-loop g l = Keeps l.initial.window.ahead l.window.ahead
