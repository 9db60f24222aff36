-- An account of which nothing was told isn't agreed on.
use Rattle.std.proofs.Common.{rules}
use Rattle.iso_tally.proofs.books.AccountBooks.verdict.Goals as goal

pub returns-in-None-clause-agree : goal.returns-in-None-clause-agree
returns-in-None-clause-agree c = search rules
