-- Of all reversals of a key, what the first one leaves is kept.
use Rattle.std.proofs.Common.{rules}
use Rattle.iso_issuer.proofs.index.keep_left.Goals as goal

pub returns-in_ok-insert-in-Undo-clause-ok : goal.returns-in_ok-insert-in-Undo-clause-ok
returns-in_ok-insert-in-Undo-clause-ok c = search rules
