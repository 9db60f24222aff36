use Rattle.iso_books.specs.Records.{Between}
use Rattle.iso_books.proofs.Zeros.{SameZeros}
use Rattle.iso_books.proofs.records.is_clear.Given as goal

-- what was let go is zeros
abbrev pub invariant-loop : goal.invariant-loop
invariant-loop g l = Between SameZeros l.initial.window.ahead l.window.ahead
