-- A foreign order is answered 12 and not entered; the host handles all else.
use Rattle.std.proofs.Common.{rules}
use Rattle.iso_guard.proofs.guard.answer_message.Goals as goal

pub returns-in_ok-append_behind-in-Ok-Some-clause-answered : goal.returns-in_ok-append_behind-in-Ok-Some-clause-answered
returns-in_ok-append_behind-in-Ok-Some-clause-answered c = search rules

pub returns-in-Ok-clause-enters : goal.returns-in-Ok-clause-enters
returns-in-Ok-clause-enters c = search rules
