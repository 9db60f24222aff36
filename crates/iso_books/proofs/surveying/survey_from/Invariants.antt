use Rattle.iso_books.specs.Records.{Between}
use Rattle.iso_books.proofs.Counted.{Goes}
use Rattle.iso_books.proofs.surveying.survey_from.Given as goal

abbrev pub invariant-loop-count : goal.invariant-loop-count
invariant-loop-count g l = Between (Goes l.count) l.initial.window.ahead l.window.ahead
