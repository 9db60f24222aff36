-- A beginning or a time-out that was noted has its effect on the acquirer again.
use Rattle.std.proofs.Common.{rules}
use Rattle.iso_restarts.proofs.replaying.go_through.Goals as goal

pub returns-in-Begun-clause-after : goal.returns-in-Begun-clause-after
returns-in-Begun-clause-after c = search rules

pub returns-in-Ok-clause-after : goal.returns-in-Ok-clause-after
returns-in-Ok-clause-after c = search rules
