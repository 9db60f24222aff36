-- All accounts are agreed on exactly where each one is.
use Rattle.std.proofs.Common.{rules}
use Rattle.iso_tally.proofs.books.all_agree.Goals as goal

pub returns : goal.returns
returns c = search rules
