use Rattle.std.proofs.Common.{List, sym, subst}
use Rattle.iso_waits.specs.declared.due.Due.{Due}
use Rattle.iso_waits.specs.Waits.{AreInTime}
use Rattle.iso_drive.proofs.board.hear.Goals as goal

pub returns-in-Closed-clause-time : goal.returns-in-Closed-clause-time
returns-in-Closed-clause-time c = λ t.
    subst (λ (w : List Due). AreInTime 0 w) (sym c.settle.ensures.waiting) (c.who_waits.ensures.in_time.less 0 c.in-Closed.stan c.args.board.now.waiting.items t)
