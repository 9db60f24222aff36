-- The frame that is appended has the given bytes and, behind them, the message.
use Rattle.std.proofs.Common.{rules}
use Rattle.iso_guard.proofs.guard.append_behind.Goals as goal

pub returns-in-Ok-clause-framed : goal.returns-in-Ok-clause-framed
returns-in-Ok-clause-framed c = search rules
